pub mod Files
pub mod Kept
pub mod Moments
pub mod Pieces
