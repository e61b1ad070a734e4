pub mod Covers
pub mod Stocks
