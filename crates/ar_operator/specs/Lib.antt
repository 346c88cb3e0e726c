pub mod Early
pub mod Executing
