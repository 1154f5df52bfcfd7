pub mod Walk
pub mod Classes
pub mod Work
