pub mod Alike
pub mod Empty
pub mod Listeners
pub mod Quiet
pub mod Rises
pub mod Steps
pub mod Tells
