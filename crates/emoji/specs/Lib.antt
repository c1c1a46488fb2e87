-- The properties of a character: the tables of Unicode's data files, and the predicates over them. Blocks and BlockData state contracts
-- of helper functions only.
pub mod UnicodeData
pub mod Tables
pub mod Blocks
pub mod BlockData
pub mod Unicode
pub mod Rows
pub mod Presentation
pub mod Theorems
