pub mod Closing
pub mod EntryBound
pub mod EntrySteps
pub mod Gathering
pub mod Histories
pub mod LaterText
pub mod OneMore
