-- What rules leave of promises: of one, of all, by a frame, that a frame answers all that it should, by every other rule.
pub mod Slots
pub mod OfFrames
pub mod FrameAnswers
pub mod OfRules
-- Why a command is refused, and that it makes one promise.
pub mod Refused
pub mod OneMade
