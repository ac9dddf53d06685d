-- what of a story may cross threads
pub mod Crossing
