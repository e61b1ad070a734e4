pub mod lists
pub mod trace
pub mod transport
pub mod consensus
pub mod broadcasts
pub mod replacement
pub mod streams
pub mod text
