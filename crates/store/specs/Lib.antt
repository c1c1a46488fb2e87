-- A store that clients share: what it holds, its calls, its bytes, and the statements.
pub mod Store
pub mod Calls
pub mod Bytes
pub mod Theorems
