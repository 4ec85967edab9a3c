pub mod Arguments
pub mod Programs
pub mod Known
pub mod Readings
