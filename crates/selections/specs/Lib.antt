pub mod Options
pub mod Selections
pub mod Groupings
