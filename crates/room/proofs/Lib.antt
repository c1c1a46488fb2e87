-- The laws: the lengths of cells before and after formatting (Lengths), and the bound (Bound).
pub mod Lengths
pub mod Bound
pub mod Reached
pub mod Claims
