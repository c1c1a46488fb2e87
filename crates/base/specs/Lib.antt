-- Definitions that every crate uses: ranges of numbers, capped sums, numbers of eight bytes, bits of a word, lists with separators,
-- document 01's table of refusals, the rows of answers, results that are written into a lent buffer, and tables of rows of numbers.
pub mod Ranges
pub mod Sums
pub mod Words
pub mod Lists
pub mod Bits
pub mod Texts
pub mod Refusals
pub mod Answers
pub mod Output
pub mod Tables
pub mod Theorems
