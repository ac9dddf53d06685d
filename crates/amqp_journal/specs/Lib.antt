-- what can be taken of a state, and what stays known of it
pub mod Untaken
-- a state, less what was taken of it
pub mod Left
-- the entries of a journal, where they lead, and what stands there
pub mod Journal
