pub mod Fronts
pub mod Written
pub mod Left
pub mod Shortened
