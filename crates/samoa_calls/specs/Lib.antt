pub mod Handed
pub mod Held
pub mod Kept
pub mod Tried
