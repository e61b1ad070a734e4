pub mod Ended
pub mod Finished
pub mod Parts
