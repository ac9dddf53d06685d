-- Octets that stand in tests.
pub mod Octets
