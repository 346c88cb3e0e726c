pub mod Row
pub mod Others
pub mod Group
pub mod Call
pub mod Plans
-- definitions of lower crates that clauses of this crate use
pub use Rattle.ar_extents.specs.Health
pub use Rattle.ar_extents.specs.Set
pub use Rattle.ar_extents.specs.Follows
pub use Rattle.ar_extents.specs.Access
pub use Rattle.ar_extents.specs.Groups
pub use Rattle.ar_disks.specs.Block
pub use Rattle.ar_disks.specs.Disk
pub use Rattle.ar_disks.specs.Geometry
pub use Rattle.ar_disks.specs.Members
