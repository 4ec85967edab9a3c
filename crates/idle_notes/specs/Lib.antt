pub mod Sets
pub mod Names
pub mod Notes
pub mod Channels
