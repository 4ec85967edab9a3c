pub mod Forms
pub mod Readers
pub mod Criteria
