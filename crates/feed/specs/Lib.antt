-- A feed: what it does with characters, its calls, its bytes, and the statements.
pub mod Feed
pub mod Calls
pub mod Bytes
pub mod Theorems
