pub mod Having
pub mod Saying
pub mod Bytes
pub mod Own
pub mod Partitions
pub mod Limits
pub mod Telling
pub mod Assumed
