pub mod Procedure
pub mod Lists
pub mod Counts
