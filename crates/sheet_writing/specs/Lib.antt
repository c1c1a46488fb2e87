-- Writing a sheet: a line in one pass.
pub mod OnePass
