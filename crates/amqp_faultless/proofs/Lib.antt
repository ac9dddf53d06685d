-- Where a faultless server and the session stand: what ordinary rules keep, a channel as both sides use it, and both sides
-- of the connection.
pub mod Ordinary
pub mod Uses
pub mod Served
pub mod ServedChannels
pub mod Greeted
pub mod WhileOpen
-- The rules keep this tie: each frame that the server may say, commands and ticks, and what is committed and sent.
pub mod Hears
pub mod Tells
pub mod Speaks
-- A provider that refuses nothing, and that no rule queues a frame that is longer than the capacity.
pub mod Sayings
pub mod Fitting
pub mod Modest
pub mod Brief
pub mod Modesty
-- How long its frames may be, the link that comes first and our close-ok that goes last, and the clock.
pub mod Limits
pub mod FirstAndLast
pub mod Open
pub mod Clock
-- The first tune-ok that was said carries the numbers that are agreed.
pub mod Tuned
pub mod TunedRules
