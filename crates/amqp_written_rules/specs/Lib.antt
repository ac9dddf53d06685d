-- What is asked of what a session is made from, so that all that it says can be written.
pub mod Sayable
