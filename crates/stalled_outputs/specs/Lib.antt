pub mod Failing
pub mod Through
