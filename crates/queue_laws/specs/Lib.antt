pub mod Positions
pub mod Queues
pub mod Edits
pub mod Options
pub mod Outputs
