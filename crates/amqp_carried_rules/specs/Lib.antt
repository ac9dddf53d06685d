-- The frames of a command, and what a frame hands out.
pub mod CommandFrames
pub mod HandingOut
