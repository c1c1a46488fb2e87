-- Laws on carrying a policy over, and the proofs of the statements.
pub mod Carrying
pub mod Coding
pub mod Testing
pub mod Calls
pub mod Putting
pub mod Meaning
pub mod Claims
