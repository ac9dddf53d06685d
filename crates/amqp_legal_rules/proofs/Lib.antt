-- The tie of what was said and the state; what is ready to go out, what is awaited, what is owed, and a link that is lost.
pub mod Ties
pub mod Ready
pub mod Expecting
pub mod Paying
pub mod Losing
-- What is said and heard on channels keeps what ties them to the conversation.
pub mod OnChannels
pub mod OnCloses
pub mod KeptChannels
-- Each rule keeps the tie: where links end, frames, commands and ticks, what was sent, and links that come with what is
-- committed on them.
pub mod Conversing
pub mod OnConnection
pub mod OnFrames
pub mod OnCommands
pub mod OnSent
pub mod OnLinks
