pub mod KnownTags
pub mod Bits
pub mod Sets
pub mod Lines
