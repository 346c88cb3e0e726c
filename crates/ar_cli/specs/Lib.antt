pub mod Exit
pub mod Faults
