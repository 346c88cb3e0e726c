pub mod Answers
pub mod Changes
pub mod Hosts
pub mod Pace
pub mod Serving
