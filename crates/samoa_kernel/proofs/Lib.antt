pub mod Opening
pub mod Standing
pub mod Found
pub mod Answering
