pub mod Coming
pub mod Cutting
pub mod Talking
