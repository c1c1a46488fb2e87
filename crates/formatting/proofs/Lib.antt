-- Laws of formatting a text from change to change.
pub mod Surveying
pub mod ByCells
