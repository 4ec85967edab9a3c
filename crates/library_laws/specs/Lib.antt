pub mod Added
pub mod Found
pub mod Listed
pub mod Grouped
pub mod Shelves
pub mod Playlists
pub mod Stickers
pub mod Messages
