-- Who logs in where a script is generated.
pub mod Login
