pub mod Draws
pub mod Order
pub mod Ends
pub mod Queues
pub mod Scans
pub mod Waits
pub mod Rows
pub mod Choices
