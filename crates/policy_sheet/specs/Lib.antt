-- Policy sheets: the form of a sheet, what it means, the reader, the writer, both calls, and the claims on them.
pub mod Grammar
pub mod Meaning
pub mod Reader
pub mod Writer
pub mod Calls
pub mod Theorems
