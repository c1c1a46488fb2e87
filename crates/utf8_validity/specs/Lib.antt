-- Runs of characters.
pub mod Runs
