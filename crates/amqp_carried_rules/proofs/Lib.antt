-- What a session still has to say of what it was told: what each rule, each command and each frame that is sent leave of it.
pub mod Bearing
pub mod Queueing
pub mod Borne
pub mod Bearers
pub mod Commanding
pub mod Leaving
pub mod Taking
-- What each frame hands out, and under which promise.
pub mod Handing
pub mod Entries
pub mod Openers
pub mod OpeningCommands
