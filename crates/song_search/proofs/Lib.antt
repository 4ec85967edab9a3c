pub mod Fronts
pub mod Truths
pub mod Between
pub mod Walk
