-- The proofs of crate sheet_reading.
pub mod Tracked
pub mod Checking
pub mod RangeSets
pub mod PieceSets
pub mod Outcomes
