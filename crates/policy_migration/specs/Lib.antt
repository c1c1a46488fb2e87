-- Carrying a policy over to our tables: definitions and statements.
pub mod Carry
pub mod Helpers
pub mod Theorems
