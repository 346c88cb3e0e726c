pub mod Choice
pub mod Copied
pub mod Copies
pub mod Each
pub mod Laws
pub mod Model
pub mod Recorded
pub mod Steps
