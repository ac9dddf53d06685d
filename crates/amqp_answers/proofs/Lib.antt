pub mod Holding
pub mod Losses
pub mod Reasons
pub mod Seen
