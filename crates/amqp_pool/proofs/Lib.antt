pub mod Counts
pub mod Channels
pub mod Openings
pub mod Keeping
pub mod Steps
pub mod Polling
pub mod Moments
pub mod Closes
