-- What is asked of each frame that a rule queues, and a session all of whose frames have it.
pub mod Spoken
-- Each rule keeps that: those of links and writing, of frames, and of commands and ticks.
pub mod OnLinks
pub mod OnChannels
pub mod OnFrames
pub mod OnCommands
-- What is asked holds: the agreed numbers, and the rules of frames.
pub mod Agreeing
pub mod Writable
-- What a client says of itself.
pub mod Introducing
