pub mod Drawing
pub mod Drawn
pub mod Members
pub mod Openings
pub mod Flowing
pub mod Walking
