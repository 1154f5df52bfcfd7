pub mod Forms
pub mod Ends
