-- Reading a sheet: what the code keeps of the bytes before an offset.
pub mod Tracking
