-- What the promise of a command stands for.
pub mod Promising
pub mod StandingFor
pub mod Awaiting
pub mod Forgetting
-- That what waits is answered where the link is lost.
pub mod Rejected
-- That the server's flow and the time of a secret are heeded.
pub mod Heeded
pub mod Flows
-- What each rule does to the link, and when a session ends Closed.
pub mod Linking
pub mod Ended
