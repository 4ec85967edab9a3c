pub mod Scans
pub mod Outputs
pub mod End
