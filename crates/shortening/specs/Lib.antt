pub mod Storage
pub mod Kept
