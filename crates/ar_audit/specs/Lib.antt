pub mod Audit
-- definitions of lower crates that contracts of this crate cite
pub use Rattle.ar_served.specs.History
pub use Rattle.ar_served.specs.Seat
