pub mod Parts
pub mod Rotations
pub mod Rings
pub mod Capacities
pub mod RollingBack
pub mod Comparing
