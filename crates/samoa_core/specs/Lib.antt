pub mod Rows
pub mod Indexed
pub mod Passing
pub mod Joining
pub mod Settling
