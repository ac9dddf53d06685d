pub mod Saying
pub mod Taking
pub mod Ends
pub mod Deciding
