-- What a port is given and tells.
pub mod Counts
pub mod Plan
pub mod Log
-- What a turn does to the engine, and what a port tells of it.
pub mod Engine
pub mod Shown
pub mod Turn
pub mod Tell
pub mod Causes
-- What went out on each link, and what is left unread.
pub mod Sending
pub mod SentWhole
pub mod Unread
pub mod Saying
-- What was told is what went out, and what was handed out came.
pub mod Carried
pub mod Account
-- What an engine is made from can be said.
pub mod Built
-- The turns of a script that is played.
pub mod Play
-- Scripts of a faultless server.
pub mod Valid
-- What the contracts of private calls are stated with.
pub mod Making
pub mod Noting
