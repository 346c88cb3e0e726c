pub mod Moves
pub mod Demotion
pub mod Cleaning
-- definitions of lower crates that contracts of this crate use
pub use Rattle.ar_store.specs.Store
pub use Rattle.ar_store.specs.Slots
pub use Rattle.ar_store.specs.Placing
pub use Rattle.ar_store.specs.Calls
pub use Rattle.ar_book.specs.Tables
pub use Rattle.ar_book.specs.Changes
