-- Who logs in a client, and what is answered to a server's questions.
pub mod Providers
pub mod DefaultAnswers
pub mod Tokens
pub mod AuthList
pub mod Asking
