-- What can be seen of some clients.
pub mod Accounts
-- What servers said, and the scripts of some.
pub mod Sayings
pub mod Scripts
-- The octets of some links.
pub mod Links
