pub mod Answers
pub mod Orders
pub mod Pictures
pub mod Setups
pub mod Texts
