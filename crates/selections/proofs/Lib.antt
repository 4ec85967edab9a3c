pub mod LastOptions
pub mod LastGroups
pub mod SameTags
pub mod DistinctTags
