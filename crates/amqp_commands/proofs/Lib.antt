pub mod Cutting
pub mod PublishLengths
