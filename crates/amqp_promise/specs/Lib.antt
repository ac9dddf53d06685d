-- what is believed of errors: their texts, and what is asked of them
pub mod Shown
pub mod Errors
pub mod Kinds
-- what is believed: what places for wakers are, a cell and its steps, and what all steps on one lead to
pub mod Places
pub mod Cell
pub mod FirstCompletion
-- what the contracts of single calls say beside that
pub mod Polls
pub mod Notices
pub mod Checks
-- how the code keeps a cell, and which ends have one cell
pub mod Stages
pub mod Ends
pub mod NotifierSource
