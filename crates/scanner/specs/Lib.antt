-- Definitions for the items of a text (document 01, "Item"), and statements about them.
pub mod Classes
pub mod Items
pub mod Rows
pub mod Grammar
pub mod Runs
pub mod RunKinds
pub mod Structure
pub mod Tags
pub mod Spans
pub mod TextCheck
pub mod Peek
pub mod SelectorRun
pub mod Theorems
