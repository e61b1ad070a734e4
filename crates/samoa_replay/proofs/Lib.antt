mod Admitting
pub mod Causes
mod Histories
mod Knowing
mod Making
pub mod Numbers
mod Out
mod Replaying
pub mod Runnable
mod Standing
mod Steady
mod Stepping
