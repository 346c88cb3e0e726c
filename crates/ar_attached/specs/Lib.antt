pub mod Attached
pub mod Names
