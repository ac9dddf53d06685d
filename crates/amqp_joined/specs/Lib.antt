-- What is believed: what a joined port tells of itself, how it came to that, and what a run over it comes to.
pub mod Ports
pub mod Reached
pub mod JoinedRuns
-- What the contracts of private calls are stated with.
pub mod Insides
