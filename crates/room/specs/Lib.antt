-- The room that a formatted text takes under the default policy (document 02, vii), and the statements about it.
pub mod Room
pub mod Theorems
