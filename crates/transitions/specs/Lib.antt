pub mod Answers
pub mod CommandResults
pub mod EarlyReports
pub mod Shelves
pub mod Transitions
