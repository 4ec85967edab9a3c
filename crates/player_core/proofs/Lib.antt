pub mod Openings
pub mod Effects
pub mod Rising
pub mod Runs
pub mod Choices
pub mod Rounds
