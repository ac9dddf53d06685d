-- what is acknowledged was printed, and taken by the sink
pub mod Acknowledging
-- the names in an ordered set of octets
pub mod Naming
-- what a delivery is, and the deeds that it is
pub mod Comings
-- the place of the first octet of a kind
pub mod Placing
