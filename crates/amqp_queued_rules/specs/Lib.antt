-- Which frames each rule of a session queues.
pub mod Queues
pub mod Queued
-- What each rule leaves of what waited.
pub mod Left
-- That a secure-ok waits only after a challenge was read.
pub mod Challenges
