-- What a double owes its client.
pub mod Owed
