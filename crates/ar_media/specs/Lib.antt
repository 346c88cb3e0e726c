pub mod CallLaws
pub mod Calls
pub mod Copying
pub mod Fates
pub mod Kept
pub mod Media
pub mod Memory
pub mod Regular
