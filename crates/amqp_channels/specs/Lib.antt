-- The listed channels, and the numbers that they are given.
pub mod Numbering
pub mod Channels
pub mod Kept
pub mod Sequence
-- The channels in order, and by what opened them.
pub mod InOrder
pub mod Openings
-- What the contracts of private calls are stated with.
pub mod NumberSet
pub mod Stopped
