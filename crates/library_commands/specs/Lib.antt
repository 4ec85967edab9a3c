pub mod Database
pub mod Playlists
pub mod Stickers
pub mod Asking
