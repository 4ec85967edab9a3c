pub mod Gathers
pub mod Meetings
pub mod Rows
