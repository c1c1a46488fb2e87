-- Taking damaged text in: the repaired text, the call `repair`, and the claims on both.
pub mod Repaired
pub mod Repair
pub mod Theorems
