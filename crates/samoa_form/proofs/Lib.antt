pub mod Along
pub mod Limits
pub mod Refused
pub mod Taken
pub mod Texts
pub mod Views
pub mod Whole
