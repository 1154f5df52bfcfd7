pub mod Laws
pub mod Passes
pub mod Writing
pub mod Heads
pub mod Bytes
