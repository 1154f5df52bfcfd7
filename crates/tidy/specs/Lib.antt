pub mod Tidy
pub mod Told
pub mod Work
