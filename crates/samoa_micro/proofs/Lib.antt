pub mod CoverLaws
pub mod SeenLists
pub mod Enough
