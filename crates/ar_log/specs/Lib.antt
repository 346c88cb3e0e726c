pub mod Codec
pub mod Failure
pub mod Log
pub mod Reading
pub mod Write
pub mod Zeroed
