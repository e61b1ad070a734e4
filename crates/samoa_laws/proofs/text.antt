pub mod Texts
pub mod Tells
pub mod Reports
pub mod Lines
pub mod Whole
pub mod OwnNumbers
pub mod Small
pub mod Names
pub mod Mute
pub mod Journals
pub mod Laws
mod Example
pub mod Valid
