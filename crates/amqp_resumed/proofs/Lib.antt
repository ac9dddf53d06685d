-- What a frame does to a conversation, on a channel or on none.
pub mod Using
-- What is led to by frames.
pub mod Resuming
-- What no conversation may say.
pub mod Refusing
-- Where it is known which content may go on.
pub mod Advancing
-- Behind a content.
pub mod Behind
-- What holds of each conversation that frames lead to.
pub mod Reachable
-- What a conversation that fits may say is taken.
pub mod Taking
-- What is known at first.
pub mod Fresh
-- The first frame that is heard, and all that follow.
pub mod Beginning
-- One frame more is heard.
pub mod HeardMore
