pub mod Shown
pub mod Changes
pub mod Joined
pub mod Positions
pub mod Left
pub mod Exchanges
pub mod Parts
pub mod Lent
