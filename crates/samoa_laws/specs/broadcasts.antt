pub mod Boxes
pub mod Abcast
pub mod Seqcast
pub mod Begun
