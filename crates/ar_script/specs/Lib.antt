pub mod Answers
pub mod Ends
pub mod Orders
pub mod Plays
