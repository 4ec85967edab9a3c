pub mod TenTags
pub mod NamedTags
pub mod ReadBack
