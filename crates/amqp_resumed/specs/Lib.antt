-- What is taken of a capture that begins late, and how it is judged frame by frame.
pub mod Rests
pub mod Resumes
pub mod HeardRests
