-- Formatting, listing and mending: document 01, "Replacement and text", "Mending in sequence", "Turned back".
pub mod Intake
pub mod Findings
pub mod Format
pub mod List
pub mod Mend
pub mod Filed
pub mod Book
pub mod Demand3
pub mod Worked
pub mod AfterRepair
pub mod Theorems
