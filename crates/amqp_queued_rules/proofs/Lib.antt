-- Parts of lists, and what waits after small changes.
pub mod Parts
-- What each rule queues: frames that are read, and all else.
pub mod Replying
pub mod Telling
-- What each rule leaves of what waited.
pub mod LeftByFrames
pub mod Lefts
-- That a secure-ok waits only after a challenge was read.
pub mod Unchallenging
