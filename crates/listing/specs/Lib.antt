-- Contracts of helper functions: listing findings into a table, step by step.
pub mod Table
