-- Songs and their tags.
pub mod Song
pub mod Tags
