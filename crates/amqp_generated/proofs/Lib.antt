-- A turn over a port that takes all, and the turns of a script whose steps lead on.
pub mod Turning
pub mod Ahead
-- The session of a generated script while its connection is open, and its turns.
pub mod OpenSession
pub mod Publishing
pub mod Ready
pub mod Steps
-- The steps of the script, and how its connection is opened.
pub mod Scripts
pub mod Handshake
pub mod AllValid
-- What is answered, and the laws.
pub mod Answering
pub mod Generated
