pub mod Walks
pub mod Rows
pub mod Serves
pub mod Scans
pub mod Commands
pub mod Numbers
pub mod Lines
