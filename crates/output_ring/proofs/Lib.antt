pub mod Bounds
mod Comings
mod Feeds
mod Heard
mod Moves
pub mod Lists
pub mod Pairs
pub mod Same
pub mod Sends
