pub mod Answering
pub mod Changing
pub mod Commands
pub mod Memory
