pub mod lists
pub mod trace
pub mod text
