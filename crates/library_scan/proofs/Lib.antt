pub mod Once
pub mod Windows
pub mod Blame
pub mod Unread
pub mod Listings
