pub mod Edits
pub mod Found
pub mod Shown
