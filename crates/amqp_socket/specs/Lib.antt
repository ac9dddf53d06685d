-- the numbers that stand for how a session stands and for why a link failed
pub mod Watched
-- for how long a link may last without what is waited for
pub mod Limits
-- what is told when time has passed
pub mod Ticks
-- the addresses of a host by its name
pub mod Resolved
