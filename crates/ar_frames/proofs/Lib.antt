pub mod Entering
pub mod Frames
pub mod Receiving
pub mod Replying
pub mod Serving
pub mod Streams
