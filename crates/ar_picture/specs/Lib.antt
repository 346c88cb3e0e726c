pub mod Cells
pub mod Drawings
pub mod Folds
pub mod Layouts
pub mod Looks
pub mod Losses
pub mod Maps
pub mod Writing
