-- What holds of all elements of a list.
pub mod Lists
-- The writes of a turn keep the tie of both ends, and the quiet lemma.
pub mod Draws
pub mod Quiet
