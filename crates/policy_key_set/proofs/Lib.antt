-- Laws about bits, members and sizes for any number of entries and words, about the variation entries, and about writing texts; and the
-- theorems.
pub mod Bits
pub mod Below
pub mod Members
pub mod TestWords
pub mod Sizes
pub mod Entries
pub mod Contains
pub mod Texts
pub mod Buffers
pub mod Claims
