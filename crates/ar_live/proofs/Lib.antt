pub mod Changing
pub mod Commands
pub mod Keeping
pub mod Memory
pub mod Unmapping
