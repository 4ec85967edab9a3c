pub mod CallCounts
pub mod Bytes
pub mod Failures
