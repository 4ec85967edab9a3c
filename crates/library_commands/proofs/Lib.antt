pub mod Columns
pub mod Uris
pub mod Windows
