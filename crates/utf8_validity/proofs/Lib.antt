-- The laws of runs of characters.
pub mod WidthRuns
