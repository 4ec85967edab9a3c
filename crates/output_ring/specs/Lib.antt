pub mod Ends
pub mod Frames
pub mod Rings
pub mod Runs
pub mod Sending
pub mod Turns
