-- What a server may say after what was said to it.
pub mod Faultless
