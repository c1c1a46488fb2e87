-- Contracts of helper functions: the parts of a mending call.
pub mod Parts
