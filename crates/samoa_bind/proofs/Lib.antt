pub mod Histories
pub mod Rebinding
pub mod Fields
