-- `double` is no other word.
pub mod OtherWords
-- The status goes with the printout.
pub mod Statuses
-- The line of a session that ended Closed.
pub mod Summaries
-- Both ends of the plan close.
pub mod Says
pub mod Endings
