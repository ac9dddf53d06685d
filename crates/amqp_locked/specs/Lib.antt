-- what lies under a lock
pub mod UnderLock
-- how the marks of dropped handles are found, and what is then done
pub mod Looking
-- what is known of what was sent on a channel
pub mod Sending
-- whether there is room for what is to be sent
pub mod Room
-- what a turn does under the lock
pub mod Turning
-- what is taken by a poll
pub mod Taking
-- what waits to be taken beside the session
pub mod Backlog
-- what nobody will take is let go
pub mod LettingGo
-- what is done where no turn comes any more
pub mod Tidying
-- whether a channel goes on after an error
pub mod Recovering
-- for whom there is something after a turn
pub mod Waking
