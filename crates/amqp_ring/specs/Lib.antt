-- What is believed, in the order in which it is read: a buffer as two lists, what changes them, and what is read.
pub mod Ring
pub mod Changes
pub mod Contexts
-- What the contracts inside the crate are stated with.
pub mod Memory
pub mod Iterators
