-- Definitions for the scanner that borrows a text (document 01, "Item"), and statements about it.
pub mod Scanner
