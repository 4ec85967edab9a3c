pub mod Calls
pub mod Entries
pub mod Lines
pub mod Maps
pub mod Memory
pub mod Shelf
