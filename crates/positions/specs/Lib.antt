-- Definitions for positions in a text: bytes, characters, UTF-16 units (document 02, v), and statements about them.
pub mod Positions
pub mod Theorems
