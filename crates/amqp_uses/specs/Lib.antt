pub mod Driving
pub mod Opening
pub mod Messages
pub mod Pooling
