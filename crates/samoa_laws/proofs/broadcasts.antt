pub mod Maps
pub mod Handed
pub mod AbcastKeeps
pub mod AbcastHistories
pub mod Numbers
pub mod NumbersKeep
pub mod SeqcastHistories
pub mod Outcomes
pub mod Given
pub mod AnswersByPort
pub mod BoxSubmitted
pub mod Boxes
pub mod Both
pub mod Histories
pub mod Deliveries
pub mod Submitted
pub mod Agree
mod BoxExample
