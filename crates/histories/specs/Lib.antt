pub mod Tally
pub mod Calls
pub mod Parts
