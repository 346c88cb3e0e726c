pub mod Crashes
pub mod Durable
