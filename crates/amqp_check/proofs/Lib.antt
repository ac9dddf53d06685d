-- What is read at a place, and heard frame by frame.
pub mod Reading
pub mod Hearing
-- What is found of the first frame that may not be said, and what may be said in its place.
pub mod Blame
pub mod Expecting
-- That a capture has one verdict.
pub mod Uniqueness
