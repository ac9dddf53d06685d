-- What a client says.
pub mod Said
-- What a server says of messages, and how it is read.
pub mod Heard
-- The properties of a message.
pub mod Properties
-- The headers among them.
pub mod Headers
