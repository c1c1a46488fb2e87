-- Laws about tables of any length, the computed test of each table, and the theorems.
pub mod Ascent
pub mod Ranges
pub mod Between
pub mod InOrder
pub mod BlockSearch
pub mod BlockBits
pub mod RangeNumbers
pub mod BlockTables
pub mod Claims
