pub mod Closed
pub mod Seats
pub mod Turning
