-- The proofs about finding an item and reading its tags.
pub mod TagsRead
pub mod Cursor
