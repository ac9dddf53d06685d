-- which channels are lost
pub mod Lost
-- what a pool holds, and what is kept of it
pub mod Pooled
-- what a lease, and what is given back, comes to
pub mod Leasing
-- how idle channels are looked at
pub mod Looking
-- what the answers to openings bring
pub mod Collecting
-- how the channels of a pool are closed
pub mod Closing
-- calls of a pool and of its hub, one after another
pub mod Moments
