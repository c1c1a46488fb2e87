-- Laws of listing: findings into a table of bytes and into a table of structs, and items that a scanner gives.
pub mod NextFindings
pub mod Storing
pub mod ItemRows
