-- What the words behind `double` ask for.
pub mod Asked
