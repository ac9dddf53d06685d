-- what is believed: which address a text is, by the URL that it parses to, and what a client says to log in
pub mod Faults
pub mod Decoding
pub mod Mechanisms
pub mod Query
pub mod Authority
pub mod Address
pub mod Login
-- what the contracts of private calls are stated with; no public call's contract cites it
pub mod Parts
