pub mod FrameCounts
pub mod Effects
pub mod Libraries
pub mod Outputs
pub mod Fits
pub mod Scans
pub mod Outcomes
