pub mod Logging
pub mod Recovering
pub mod Replaying
