pub mod Truth
pub mod Answers
pub mod Folders
