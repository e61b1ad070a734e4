pub mod Transport
pub mod Callers
