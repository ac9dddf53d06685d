pub mod PlaceLemmas
pub mod FirstCompletions
-- errors: two that test equal are of one kind, also for types of crates above
pub mod Same
