pub mod Bound
pub mod Histories
pub mod Kept
