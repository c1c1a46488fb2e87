-- The laws that the functions' proofs use, and the proofs of the statements.
pub mod Digits
pub mod Reading
pub mod Texts
pub mod LineLengths
pub mod Outputs
pub mod Claims
