-- Cutting a text: which cuts are allowed, the largest one at or below an offset, and the statements (document 02, xiii).
pub mod Cut
pub mod Helpers
pub mod Theorems
pub mod Examples
