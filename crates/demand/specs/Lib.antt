pub mod Setting
pub mod Whole
pub mod Place
pub mod Lengths
pub mod Claim
