pub mod Parts
pub mod Passes
pub mod Law
pub mod Same
pub mod Staged
