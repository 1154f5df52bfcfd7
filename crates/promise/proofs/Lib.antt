pub mod Tidied
pub mod Formed
pub mod Promised
pub mod Needed
pub mod Wrong
pub mod NeededLengths
