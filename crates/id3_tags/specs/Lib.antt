pub mod Tags
pub mod Frames
pub mod Grammar
pub mod Encodings
pub mod Texts
pub mod Windows
pub mod Views
