pub mod Cuts
pub mod Lines
pub mod Limits
pub mod Tags
pub mod Steps
