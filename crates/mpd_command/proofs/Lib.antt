pub mod Known
pub mod Indices
