-- The formatted text always fits into the buffer, and the answer decides the output.
pub mod Rooms
pub mod Filing
