pub mod Booleans
pub mod Numbers
pub mod Lists
