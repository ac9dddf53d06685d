-- The state of a session, and what is agreed in it.
pub mod Talk
pub mod Negotiation
-- What rules ask a provider.
pub mod Asking
-- The rules: what each happening does to the state.
pub mod Channels
pub mod Recovery
pub mod Changes
pub mod Links
pub mod ChannelMethods
pub mod ConnectionMethods
pub mod Memory
pub mod Frames
pub mod Ticks
pub mod Commands
pub mod Writing
pub mod Answers
pub mod Queries
-- What the rules keep.
pub mod Causes
pub mod Sound
pub mod Laws
pub mod Secrets
-- What the contracts of private calls are stated with.
pub mod Parts
