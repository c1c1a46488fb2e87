-- Definitions for the two programs: reading a message, and the lines that they write (document 01, "Programs").
pub mod Message
pub mod Lines
pub mod Theorems
