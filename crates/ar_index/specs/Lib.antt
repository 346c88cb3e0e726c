pub mod Bits
pub mod Choices
pub mod Tree
