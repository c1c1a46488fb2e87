-- Runs of ASCII bytes, and a statement about them.
pub mod Ascii
pub mod Theorems
