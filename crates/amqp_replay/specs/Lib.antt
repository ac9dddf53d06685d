-- What a source gives, and what a sink takes.
pub mod Ends
-- A script: its lines, its words, numbers and bytes, and the setting or the step that a line says.
pub mod Lines
pub mod Words
pub mod Decimals
pub mod Data
pub mod Setup
pub mod Grammar
pub mod Scripts
-- What the contracts of private calls are stated with.
pub mod Budgets
pub mod Reasons
-- What is printed.
pub mod Report
pub mod Summary
-- The script that a number makes, and what it says.
pub mod Generator
pub mod GeneratedScenario
-- What a replay promises.
pub mod Top
-- What the contracts of its private calls say of a run.
pub mod Runs
