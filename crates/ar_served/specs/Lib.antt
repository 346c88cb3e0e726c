pub mod Counts
pub mod History
pub mod Kept
pub mod Operations
pub mod Seat
pub mod Served
pub mod Serving
-- definitions of lower crates that contracts of this crate cite
pub use Rattle.ar_core.specs.Allocation
pub use Rattle.ar_core.specs.Events
pub use Rattle.ar_core.specs.Step
pub use Rattle.ar_volume.specs.Image
pub use Rattle.ar_volume.specs.Sectors
pub use Rattle.ar_book.specs.Tables
pub use Rattle.ar_extents.specs.Set
pub use Rattle.ar_unit.specs.Unit
pub use Rattle.ar_unit.specs.Broken
pub use Rattle.ar_scsi.specs.Reply
