-- What is believed: a plan, and what a port tells by it.
pub mod Plans
pub mod Joining
-- What the lemmas on the writes of a turn are stated with.
pub mod Writes
