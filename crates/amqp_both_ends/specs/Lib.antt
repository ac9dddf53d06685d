-- What is believed of both ends joined.
pub mod TwoEnds
pub mod Logins
