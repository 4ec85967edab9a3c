pub mod Slashes
pub mod Signs
pub mod Manys
