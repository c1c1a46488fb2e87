-- Laws about cells in two parts and about cuts, and the proofs of the statements.
pub mod Classes
pub mod Cutting
pub mod Lists
pub mod Cuts
pub mod Examples
pub mod Claims
