-- What is told and taken, step by step.
pub mod Marking
pub mod Steps
pub mod Called
pub mod Stories
-- What was told says what happened: back over it, a turn at a time.
pub mod Reaching
pub mod Backwards
pub mod Joins
-- What is taken is on the one link.
pub mod OneLink
-- A turn that was cut no sooner than it had ended its session is as one that was not.
pub mod Uncut
-- Turns of a run, and what they come to.
pub mod Taking
