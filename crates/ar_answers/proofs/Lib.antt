pub mod Appending
pub mod Counting
pub mod FaultLemmas
pub mod Printing
pub mod RunLengths
