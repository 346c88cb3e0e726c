pub mod Crashing
pub mod Discarding
pub mod Keeping
