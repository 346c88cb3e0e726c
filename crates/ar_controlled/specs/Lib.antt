pub mod Orders
-- definitions of lower crates that clauses of this crate cite
pub use Rattle.ar_operator.specs.Executing
