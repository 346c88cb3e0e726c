pub mod Copying
pub mod Files
pub mod Joins
pub mod Journal
pub mod Mirror
pub mod Reader
pub mod Switch
