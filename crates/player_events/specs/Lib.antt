pub mod Events
pub mod Sizes
pub mod Outcomes
