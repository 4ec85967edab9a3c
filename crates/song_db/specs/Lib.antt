pub mod Library
pub mod Lines
