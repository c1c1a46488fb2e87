-- The laws of the calls of a feed whose policy may change.
pub mod Parts
