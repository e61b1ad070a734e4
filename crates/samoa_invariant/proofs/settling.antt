-- Which releases and ends are made, and in which order.
pub mod Releasing
pub mod Making
