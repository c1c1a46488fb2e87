-- The laws of UTF-8. Proofs of other crates use Places (loops over a text), Packed (`decode`) and Texts (whole texts).
pub mod FirstBytes
pub mod Fronts
pub mod Rows
pub mod Scalars
pub mod Encoding
pub mod Decoding
pub mod Values
pub mod Folds
pub mod Texts
pub mod Places
pub mod Packed
pub mod Grammar
pub mod Completions
pub mod SecondBytes
pub mod Subparts
pub mod Unfinished
pub mod Claims
