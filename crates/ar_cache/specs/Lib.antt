pub mod Backing
pub mod Cache
-- the words of lower crates that clauses of this one cite
pub use Rattle.ar_disks.specs.Geometry
pub use Rattle.lru.specs.LruCache
