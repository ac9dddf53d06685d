-- how a session ends over a port that never fails
pub mod Faultless
-- what a table has under a name that was set
pub mod Put
-- what comes of a rule that asks nothing
pub mod Unasked
-- what an engine has said stays legal
pub mod Legally
-- how far the frames of a message reach
pub mod Deliveries
-- what can be seen of it stays carried
pub mod Carried
