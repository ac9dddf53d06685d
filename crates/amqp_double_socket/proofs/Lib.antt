mod Written
mod Faults
