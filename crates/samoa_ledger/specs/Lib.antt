pub mod Gathering
pub mod Left
pub mod Written
