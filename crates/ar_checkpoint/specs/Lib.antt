pub mod Failing
pub mod Gradual
pub mod LogReplay
pub mod Replacing
pub mod Store
pub mod Successor
pub mod Writing
