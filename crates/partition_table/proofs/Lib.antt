pub mod Changes
pub mod Looks
pub mod Moves
