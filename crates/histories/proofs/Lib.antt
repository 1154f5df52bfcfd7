pub mod Served
pub mod Calls
pub mod Tallied
pub mod Parts
pub mod Worked
pub mod Needed
