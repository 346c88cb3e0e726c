pub mod Addresses
pub mod Empty
pub mod Fused
pub mod Parts
pub mod Places
pub mod Sectors
pub mod Xor
