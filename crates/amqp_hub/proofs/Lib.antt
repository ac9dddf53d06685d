-- The places of passes in a journal, and their counts.
pub mod Placing
-- What each call leaves is kept.
pub mod Keeping
-- A command stands once, and none is missing.
pub mod Once
-- What is done about a mark that was found.
pub mod Owning
-- Where the places of handles stand.
pub mod Standing
-- A step whose turn was cut exactly where it was refused.
pub mod Taking
-- What may be done with a hub that is lent.
pub mod Lending
