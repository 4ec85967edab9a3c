pub mod Playback
pub mod Queue
pub mod Shown
