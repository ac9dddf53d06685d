-- Small facts by the laws of constructors.
pub mod Apart
-- Replies are spelled.
pub mod Spelling
-- What frames take, with all that comes of them.
pub mod Weights
pub mod Costs
-- What both ends owe each other, frame by frame.
pub mod Deals
-- What the double read is what was sent.
pub mod ReadSent
-- Publishes flow on.
pub mod Flowing
-- What a command queues.
pub mod Commanding
-- What a reply queues.
pub mod Replying
-- The steps after the link.
pub mod Later
-- What is known of an engine with a history.
pub mod Tied
-- What waits, through the writes of a turn.
pub mod Outgoing
-- The writes of a turn.
pub mod Writes
-- How many turns are left.
pub mod Counting
-- Between turns.
pub mod Standing
-- The step of a turn.
pub mod Moving
-- The one reply that is owed.
pub mod Reading
-- The writes lead on.
pub mod Turning
-- A turn after the link, and the turn of the link.
pub mod Turns
pub mod Linking
-- The end of both.
pub mod Ending
-- The steps of turns as given ones, and what is said in them.
pub mod Givens
pub mod Steps
-- Turns, one after another.
pub mod Runs
-- The same turns over a port that plays their steps.
pub mod Replaying
pub mod Served
-- Both ends close.
pub mod Both
-- What is asked of the provider, and that what it answers can be said.
pub mod Logins
-- The same of the provider of an address.
pub mod DefaultLogins
