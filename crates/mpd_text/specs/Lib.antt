pub mod Lines
pub mod Answers
pub mod Songs
pub mod Texts
