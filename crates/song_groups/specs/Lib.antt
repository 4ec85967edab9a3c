pub mod Columns
pub mod Numbers
pub mod Order
pub mod Tuples
pub mod Counts
