pub mod Adding
pub mod Calling
pub mod Empty
pub mod Lifting
pub mod Modelling
