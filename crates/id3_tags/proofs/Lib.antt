pub mod FrameLaws
pub mod GrammarLaws
pub mod Spelling
pub mod TagLaws
pub mod WindowsLaws
