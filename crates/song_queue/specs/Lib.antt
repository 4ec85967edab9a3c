pub mod Entries
pub mod Shuffles
pub mod Past
pub mod State
pub mod Refusals
pub mod Laws
pub mod Rows
pub mod Fields
