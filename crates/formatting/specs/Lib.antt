-- Contracts of helper functions: the parts of formatting a text.
pub mod FirstChange
