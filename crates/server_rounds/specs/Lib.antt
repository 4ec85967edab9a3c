pub mod Inboxes
pub mod Slots
pub mod Rounds
