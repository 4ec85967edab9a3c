pub mod Members
pub mod Heard
pub mod Apart
