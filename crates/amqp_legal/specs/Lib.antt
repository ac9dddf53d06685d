-- Legal conversations of a client, by a grammar, and decided frame by frame.
pub mod Octets
pub mod Legal
pub mod Decider
-- That a conversation keeps the numbers that its tune-ok agrees to.
pub mod Agreed
-- What a speech of the code stands for, and what was said in it.
pub mod Speeches
-- What the contracts of private calls are stated with.
pub mod Kinds
pub mod Judging
