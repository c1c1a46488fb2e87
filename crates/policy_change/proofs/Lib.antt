-- The laws of a feed whose policy may change, and the proofs of the statements.
pub mod Testing
pub mod Selectors
pub mod Policies
pub mod Standing
pub mod Steps
pub mod Runs
pub mod HeldBase
pub mod Changing
pub mod Claims
