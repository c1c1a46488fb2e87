-- The answers to writing a character.
pub mod Answers
