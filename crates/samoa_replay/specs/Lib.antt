pub mod Begun
pub mod Faults
pub mod Steady
pub mod Following
pub mod Lines
