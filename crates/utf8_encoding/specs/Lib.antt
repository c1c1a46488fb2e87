-- Writing a character.
pub mod Write
