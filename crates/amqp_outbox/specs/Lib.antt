-- What waits, and what is awaited.
pub mod Lists
pub mod QueuedFrame
pub mod Items
pub mod Listed
pub mod Replies
-- The outbox: four lists, and what each call does to them.
pub mod Queued
-- What the contracts of private calls are stated with.
pub mod Order
pub mod Kinds
pub mod Parts
