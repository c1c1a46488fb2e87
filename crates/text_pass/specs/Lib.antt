-- Contracts of helper functions: the next change and the next finding of a text.
pub mod Changes
pub mod Findings
