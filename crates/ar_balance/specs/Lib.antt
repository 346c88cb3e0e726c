pub mod Rule
pub mod Copies
pub mod Balance
pub mod Measure
-- definitions of lower crates that contracts of this crate use
pub use Rattle.ar_store.specs.Store
pub use Rattle.ar_store.specs.Slots
pub use Rattle.ar_store.specs.Forming
pub use Rattle.ar_book.specs.Tables
pub use Rattle.ar_book.specs.Changes
pub use Rattle.ar_extents.specs.Set
pub use Rattle.ar_extents.specs.Loose
pub use Rattle.ar_extents.specs.Follows
