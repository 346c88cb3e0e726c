pub mod SlotLemmas
pub mod Holding
pub mod Frames
pub mod Rebuilding
pub mod Plans
pub mod Reported
pub mod Standing
pub mod Overwriting
