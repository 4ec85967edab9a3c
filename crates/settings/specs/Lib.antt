pub mod Keys
pub mod Values
pub mod Refusals
pub mod Readings
pub mod OneLines
