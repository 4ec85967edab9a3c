pub mod Asking
pub mod Gates
pub mod PathWriting
pub mod Watches
pub mod Writers
