-- The decider takes the legal conversations, and no others.
pub mod Words
pub mod Sayable
pub mod TakenIsLegal
pub mod LegalIsTaken
-- Conversations that are legal, and some that are not.
pub mod Conversations
-- Conversations that keep the numbers of their tune-ok, and some that do not.
pub mod Agreements
-- What is said frame by frame, and by what each frame is.
pub mod Saying
pub mod Judging
