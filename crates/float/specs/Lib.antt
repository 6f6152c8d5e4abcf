pub mod Bits
pub mod Parts
pub mod Root
pub mod Nearest
