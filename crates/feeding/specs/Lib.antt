-- Contracts of the helper functions of a feed's calls.
pub mod Copied
pub mod Helpers
pub mod Later
pub mod Parts
