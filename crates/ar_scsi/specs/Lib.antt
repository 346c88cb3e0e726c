pub mod Block
pub mod Data
pub mod Field
pub mod Reading
pub mod Reply
pub mod Sense
pub use Rattle.byteorder.specs.Endian
