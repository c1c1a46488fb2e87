-- UTF-8 as in RFC 3629, and statements about it.
pub mod Rfc3629
pub mod Subparts
pub mod Theorems
