pub mod Unheard
pub mod Queue
pub mod Library
pub mod Clients
pub mod Lines
pub mod ClientSteps
