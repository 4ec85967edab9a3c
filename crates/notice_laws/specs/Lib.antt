pub mod ClientSteps
pub mod Tellers
pub mod Lines
pub mod Told
