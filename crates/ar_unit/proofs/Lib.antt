pub mod Failures
pub mod Laws
pub mod Pieces
pub mod Serving
