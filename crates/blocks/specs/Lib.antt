pub mod Blocks
pub mod Rewrite
