-- The output of the program `report` (document 01, "Programs").
pub mod Report
pub mod Theorems
