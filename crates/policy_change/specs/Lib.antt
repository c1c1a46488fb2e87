-- A feed whose policy may change: its calls, its bytes, and the statements.
pub mod Calls
pub mod Bytes
pub mod Theorems
