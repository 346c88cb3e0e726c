pub mod Store
pub mod Slots
pub mod Kept
pub mod Placing
pub mod Plans
pub mod Calls
pub mod Spaces
pub mod Fullest
pub mod Forming
-- the words of lower crates that clauses of this crate cite
pub use Rattle.ar_book.specs.Tables
pub use Rattle.ar_book.specs.Changes
pub use Rattle.ar_book.specs.Choices
pub use Rattle.ar_book.specs.Refusals
pub use Rattle.ar_extents.specs.Set
pub use Rattle.ar_extents.specs.Groups
pub use Rattle.ar_extents.specs.Follows
pub use Rattle.ar_extents.specs.Access
pub use Rattle.ar_extents.specs.Changes as SetChanges
pub use Rattle.ar_disks.specs.Block
pub use Rattle.ar_disks.specs.Geometry
