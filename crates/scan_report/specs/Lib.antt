pub mod Reports
pub mod Speeds
pub mod Found
