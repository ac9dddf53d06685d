-- What is believed: what `double N` asks for, the plan of a number, and what is printed of its run.
pub mod Numbers
pub mod Doubling
