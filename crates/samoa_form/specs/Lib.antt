pub mod Limits
pub mod Members
pub mod Reads
