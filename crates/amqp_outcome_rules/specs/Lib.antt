-- When a session ends Closed.
pub mod Closings
-- What the promise of a command stands for.
pub mod Standing
-- What waits is answered where the link is lost.
pub mod Rejections
-- That the server's flow and the time of a secret are heeded.
pub mod Heeding
