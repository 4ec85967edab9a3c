-- Numbers and the lines of answers.
pub mod Answer
pub mod Number
pub mod Range
pub mod Millis
