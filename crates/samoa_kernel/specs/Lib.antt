pub mod Opens
pub mod Bases
pub mod Boards
pub mod Answers
