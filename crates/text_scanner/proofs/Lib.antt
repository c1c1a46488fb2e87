-- Proofs about the scanner that borrows a text, and the proofs of the statements.
pub mod Advancing
pub mod GivenItems
pub mod Claims
