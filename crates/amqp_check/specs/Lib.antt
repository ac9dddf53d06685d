-- What is believed: the verdict on a capture, the first frame that may not be said, and what may be said in its place.
pub mod Verdicts
pub mod Findings
pub mod Expected
-- What the contracts of private calls are stated with.
pub mod Hearing
