pub mod Changes
pub mod Stages
pub mod Sayings
pub mod Owing
pub mod Behind
