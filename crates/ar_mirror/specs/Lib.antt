pub mod Slots
pub mod Plans
pub mod Holds
pub mod Calls
-- definitions of lower crates that clauses of this crate use
pub use Rattle.ar_extents.specs.Set
pub use Rattle.ar_extents.specs.Follows
pub use Rattle.ar_extents.specs.Access
pub use Rattle.ar_extents.specs.Groups
pub use Rattle.ar_disks.specs.Geometry
pub use Rattle.ar_disks.specs.Members
