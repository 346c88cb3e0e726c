pub mod Plans
pub mod Rows
pub mod Rebuild
-- the words of lower crates that clauses of this crate cite
pub use Rattle.ar_store.specs.Store
pub use Rattle.ar_store.specs.Slots
pub use Rattle.ar_store.specs.Spaces
pub use Rattle.ar_extents.specs.Health
pub use Rattle.ar_extents.specs.Set
pub use Rattle.ar_extents.specs.Follows
pub use Rattle.ar_extents.specs.Access
