-- Each rule of the session, and each part of a turn, keeps two states tied, whatever is known of the parts.
pub mod Tied
pub mod Turns
-- What is known of the parts: what a running session has left, and that each promise is there.
pub mod Parts
pub mod Left
-- A session that has ended, a turn that was cut before its first part, and sound states.
pub mod Ended
pub mod Starving
pub mod Sounding
-- The law of the journal: when a link is asked for, one entry, and all of them.
pub mod Asking
pub mod Stepping
pub mod Journal
-- Which entry ended the session.
pub mod Endings
