-- How many steps may still come.
pub mod Lefts
pub mod Room
