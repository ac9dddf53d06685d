pub mod Told
pub mod Giving
