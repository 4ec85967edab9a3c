pub mod Given
pub mod Booked
pub mod Frames
pub mod Songs
