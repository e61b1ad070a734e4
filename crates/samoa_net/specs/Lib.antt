pub mod Gathered
pub mod Messages
