pub mod Asking
pub mod Discards
pub mod Ending
pub mod Parts
pub mod Places
pub mod Replies
