-- which errors connecting has, and when a spawner's count rises
pub mod Refusals
-- the handles on a connection
pub mod Handles
-- what the answer to a command shows, and why one is refused
pub mod Commands
-- what is made of the answer to a promise
pub mod Giving
-- what waiting until all is sent answers
pub mod Sending
-- what a port is shown of its session
pub mod Shown
-- what a channel tells of its state
pub mod Telling
-- how connecting is answered
pub mod Connecting
-- how a builder's connecting is answered
pub mod Building
