pub mod Faults
pub mod ShelfFaults
pub mod Starting
pub mod Restoring
pub mod Storing
pub mod Keeping
pub mod Keepers
