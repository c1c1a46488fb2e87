-- The findings around a stretch of bytes, and the finding nearest to an offset: document 02, (ix).
pub mod Around
pub mod Nearest
pub mod Helpers
pub mod Theorems
