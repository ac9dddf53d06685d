-- What a session is made from.
pub mod Config
pub mod Capacities
-- What is agreed, and what the client says to open and close.
pub mod Negotiation
pub mod Handshake
