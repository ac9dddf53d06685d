pub mod Sendable
pub mod Sharing
pub mod Refusing
pub mod Begun
pub mod Told
