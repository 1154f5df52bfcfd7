pub mod Sliced
pub mod Staged
