pub mod Background
pub mod Desk
pub mod Discarding
pub mod Ends
pub mod Flushing
pub mod Port
pub mod Refusing
-- definitions of lower crates that clauses of this crate cite
pub use Rattle.ar_served.specs.Seat
pub use Rattle.ar_served.specs.Counts
pub use Rattle.ar_served.specs.Kept
pub use Rattle.ar_served.specs.Served
pub use Rattle.ar_served.specs.Serving
pub use Rattle.ar_served.specs.Operations
pub use Rattle.ar_core.specs.Step
pub use Rattle.ar_volume.specs.Image
pub use Rattle.ar_volume.specs.Sectors
pub use Rattle.ar_book.specs.Tables
pub use Rattle.ar_frames.specs.Frame
pub use Rattle.ar_frames.specs.Port as SessionPort
pub use Rattle.ar_frames.specs.Session
