pub mod Finds
pub mod Groups
pub mod Routes
pub mod Sizes
