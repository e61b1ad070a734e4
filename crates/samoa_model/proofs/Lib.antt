pub mod Counts
pub mod Handlers
