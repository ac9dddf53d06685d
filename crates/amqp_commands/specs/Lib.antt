pub mod Publishing
pub mod Shown
