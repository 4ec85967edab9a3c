-- A stream as lines, and a line as words.
pub mod Cut
pub mod Split
pub mod Scan
pub mod Words
pub mod Grammar
pub mod Quoted
