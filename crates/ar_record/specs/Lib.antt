pub mod Encoding
pub mod Reading
pub mod Record
pub mod Replay
