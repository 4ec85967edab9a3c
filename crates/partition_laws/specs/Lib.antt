pub mod Apart
pub mod Moves
pub mod Reports
pub mod Owing
