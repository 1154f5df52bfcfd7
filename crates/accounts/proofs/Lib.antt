pub mod Serving
pub mod Saving
