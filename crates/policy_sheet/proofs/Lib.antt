-- The proofs of crate policy_sheet.
pub mod ByteKinds
pub mod Accepts
pub mod Derives
pub mod Runs
pub mod Completions
pub mod Faults
pub mod Words
pub mod Points
pub mod RunCovers
pub mod Written
pub mod ReadsBack
pub mod Maximal
pub mod Lengths
pub mod Offsets
pub mod PolicyValues
pub mod Outcomes
pub mod Claims
