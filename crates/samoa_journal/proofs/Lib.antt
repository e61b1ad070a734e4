pub mod Roomier
pub mod Parts
pub mod Opens
pub mod Ends
