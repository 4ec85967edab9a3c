pub mod Slots
pub mod Blocks
pub mod Views
pub mod Sequence
pub mod Keys
