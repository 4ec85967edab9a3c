pub mod Order
pub mod Names
pub mod Search
pub mod Lengths
