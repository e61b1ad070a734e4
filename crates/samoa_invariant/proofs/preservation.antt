-- Each enabled step keeps the invariant, for each form of declaration.
pub mod Versions
pub mod Slots
pub mod Admits
pub mod Moves
pub mod Steps
pub mod Closed
pub mod Accepts
pub mod Bounds
pub mod Routes
pub mod Forms
