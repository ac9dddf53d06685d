-- What the words of a command line ask for.
pub mod Asked
-- A capture: the octets that its lines say, and what is printed of the verdict on them.
pub mod Captures
pub mod CapturesRead
pub mod Checks
