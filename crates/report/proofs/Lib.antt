-- The parts of a report, its length, and the proofs of the statements.
pub mod Reports
pub mod Rooms
pub mod Longer
pub mod Claims
