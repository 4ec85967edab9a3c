pub mod Texts
pub mod Back
pub mod Behind
pub mod Told
pub mod OneLine
pub mod Sections
pub mod HeardMore
pub mod PlayersBack
