-- The proofs of crate sheet_writing.
pub mod OnePass
pub mod EntryTexts
pub mod Lines
pub mod Outcomes
