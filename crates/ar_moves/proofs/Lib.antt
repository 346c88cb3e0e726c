pub mod Answers
pub mod Readiness
pub mod Work
pub mod Ending
pub mod Single
pub mod Planned
pub mod Costs
