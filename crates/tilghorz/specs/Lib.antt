-- The answer words of the C functions: document 01, "Replacement and text", "Turned back".
pub mod AnswerWord
pub mod Theorems
