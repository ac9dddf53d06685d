-- What the rules leave of promises, and why a promise is answered with an error.
pub mod Refusals
pub mod Answering
