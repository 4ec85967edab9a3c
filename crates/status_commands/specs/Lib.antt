pub mod Connection
pub mod Outputs
pub mod Messages
pub mod Options
pub mod Status
pub mod Stats
