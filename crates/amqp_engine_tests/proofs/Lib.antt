-- Which clients carried what they were told.
pub mod Accounting
-- How a server is shown to be none that is faultless.
pub mod NotServed
-- The octets of frames, and which scripts are those of a faultless server.
pub mod Octets
pub mod ValidScripts
-- What the octets of a link may be.
pub mod Spelling
