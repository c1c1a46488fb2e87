-- Laws about positions, and the proofs of the statements.
pub mod Counting
pub mod Boundaries
pub mod Claims
