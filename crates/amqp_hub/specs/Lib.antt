-- the passes of callers, and which are of a hub
pub mod Passes
-- what a hub holds, and what is kept of it
pub mod Guarded
-- what each call makes of it
pub mod Entering
-- what is done about what was let go
pub mod Due
-- where the marks of dropped handles are found
pub mod Marks
-- and what is then done
pub mod Owning
-- what may be done with a hub that is lent
pub mod Lending
