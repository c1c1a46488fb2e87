-- The output of the program `format`, and the contract of formatting a message into a buffer that is long enough.
pub mod Output
