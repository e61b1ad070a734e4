-- The index of a core goes on with each step.
pub mod Queues
pub mod Carried
pub mod Moves
pub mod Marks
pub mod Stepping
pub mod Handling
pub mod Leaving
pub mod Admitting
pub mod Clearing
pub mod Calm
pub mod Leading
pub mod Placed
