pub mod Turned
pub mod Shares
