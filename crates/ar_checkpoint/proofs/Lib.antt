pub mod Clauses
pub mod Replays
pub mod Appends
pub mod Switching
pub mod Graduating
pub mod Storing
