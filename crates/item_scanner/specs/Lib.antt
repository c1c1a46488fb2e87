-- Definitions for reading a tag modification.
pub mod TagStates
