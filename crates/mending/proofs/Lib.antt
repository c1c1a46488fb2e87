-- Laws of mending: the finding that starts at an offset, and the text with the finding exchanged for other bytes.
pub mod Starting
pub mod Around
pub mod Exchanging
