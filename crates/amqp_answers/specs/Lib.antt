-- What is told, and what is answered.
pub mod Events
pub mod Settled
-- What is seen of promises and events, and their places.
pub mod Seen
-- What the contracts of private calls are stated with.
pub mod Sharing
