-- Definitions for reading the parts of an item at an offset, and a statement about them.
pub mod Parts
pub mod Walks
