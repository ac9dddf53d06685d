-- What the default provider answers may come from it, and what closures that make tokens leave.
pub mod Answering
pub mod ByClosures
