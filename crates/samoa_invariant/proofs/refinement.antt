-- What the invariant says of the serial run.
pub mod Points
pub mod Heads
pub mod Ends
pub mod Parts
pub mod Serials
