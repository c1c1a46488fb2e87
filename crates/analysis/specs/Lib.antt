-- Definitions of counts, rules, replacements and choices (document 01, "Counts and finding", "Replacement and text"), and
-- statements about them.
pub mod Cells
pub mod Counts
pub mod Rules
pub mod Analysis
pub mod Components
pub mod Decisions
pub mod CellView
pub mod Findings
pub mod ItemAt
pub mod Helpers
pub mod ChoicesAt
pub mod Examples
pub mod Theorems
