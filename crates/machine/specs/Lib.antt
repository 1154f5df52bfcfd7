pub mod Act
pub mod Machine
pub mod Single
pub mod Demand
