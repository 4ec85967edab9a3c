pub mod Clients
pub mod Rooms
pub mod UpToDate
pub mod Fingerprint
