pub mod Asks
pub mod Faults
pub mod Finds
pub mod Moves
pub mod Notes
pub mod Opens
pub mod Settled
pub mod Tables
