-- marks that are found and looked at, one more at a time
pub mod Looking
-- a turn after them
pub mod Turns
-- what is done where no turn comes any more
pub mod Tidying
-- frames that wait beside the session
mod Kept
