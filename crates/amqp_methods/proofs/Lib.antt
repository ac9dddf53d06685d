-- what a server says is read, and what is read was said so
pub mod Reading
-- what the properties of a message are spelled as, and read as
pub mod Fields
