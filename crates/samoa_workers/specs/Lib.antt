pub mod Drained
pub mod Members
pub mod Seats
