pub mod Shown
pub mod HiddenTags
pub mod ShownSongs
pub mod Results
pub mod HiddenLines
pub mod ChosenTags
pub mod Base
pub mod BaseTags
