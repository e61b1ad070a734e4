pub mod Claims
pub mod Carried
pub mod Received
pub mod Accepted
pub mod Events
pub mod Callers
