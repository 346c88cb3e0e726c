pub mod Live
-- definitions of lower crates that contracts of this crate cite
pub use Rattle.ar_served.specs.Counts
pub use Rattle.ar_served.specs.History
pub use Rattle.ar_served.specs.Kept
pub use Rattle.ar_served.specs.Operations
pub use Rattle.ar_served.specs.Seat
pub use Rattle.ar_served.specs.Served
pub use Rattle.ar_served.specs.Serving
pub use Rattle.ar_core.specs.Events
pub use Rattle.ar_core.specs.Step
pub use Rattle.ar_volume.specs.Image
pub use Rattle.ar_volume.specs.Sectors
pub use Rattle.ar_book.specs.Tables
pub use Rattle.ar_unit.specs.Unit
pub use Rattle.ar_unit.specs.Broken
pub use Rattle.ar_scsi.specs.Reply
