-- What the contracts of private calls are stated with.
pub mod Provided
pub mod Reopening
