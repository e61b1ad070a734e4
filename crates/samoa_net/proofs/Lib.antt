pub mod Entries
pub mod Kept
pub mod Messages
pub mod Plans
