pub mod Canonical
pub mod Objects
pub mod Sound
pub mod Texts
