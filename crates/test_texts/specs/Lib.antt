pub mod Both
pub mod Growing
