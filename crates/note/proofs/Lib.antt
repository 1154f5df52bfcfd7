pub mod Gathered
pub mod Laws
