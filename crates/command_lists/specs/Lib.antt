pub mod Words
pub mod Lists
pub mod Grammar
