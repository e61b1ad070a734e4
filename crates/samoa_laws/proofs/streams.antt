pub mod Boxes
pub mod Views
pub mod Words
pub mod Listed
pub mod Down
pub mod Nesting
pub mod Outlets
pub mod Askings
pub mod Opened
pub mod Switches
pub mod Rebound
pub mod Bound
pub mod Submitted
pub mod Settled
pub mod Order
pub mod Ups
pub mod Owed
mod ExampleRun
mod GroupExample
