-- lines that are said one after another, and an error after them
pub mod Lines
-- a port to the address of a text is asked for
pub mod Asking
