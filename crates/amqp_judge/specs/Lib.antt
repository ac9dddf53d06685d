-- What was taken of both sides of a link, of octets that come in pieces, and the line of a verdict.
pub mod Taken
pub mod Lines
