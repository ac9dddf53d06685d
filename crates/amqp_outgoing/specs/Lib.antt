pub mod Marks
-- What is seen of what goes out, and its places.
pub mod Outgoings
-- What the contracts of private calls are stated with.
pub mod Places
