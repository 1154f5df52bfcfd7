pub mod Exist
pub mod Work
