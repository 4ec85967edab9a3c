pub mod Taken
pub mod First
pub mod Causes
pub mod Texts
pub mod OneLines
pub mod Names
