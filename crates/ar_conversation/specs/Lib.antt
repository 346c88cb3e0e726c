pub mod Controller
pub mod Faults
pub mod Lines
pub mod Orders
pub mod Talk
