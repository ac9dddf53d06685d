-- What is believed: what a double replies, and what it answers to its client's octets.
pub mod Replies
pub mod Doubles
pub mod Faults
-- What the contracts of private calls are stated with.
pub mod Arrivals
pub mod Hearing
