pub mod Health
pub mod Set
pub mod Follows
pub mod Access
pub mod Log
pub mod Plans
pub mod Loose
pub mod Changes
pub mod Groups
pub mod Texts
-- definitions of ar_disks that clauses of this crate use
pub use Rattle.ar_disks.specs.Geometry
pub use Rattle.ar_disks.specs.Disk
pub use Rattle.ar_disks.specs.Members
