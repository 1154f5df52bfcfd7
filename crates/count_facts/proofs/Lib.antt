pub mod Laws
pub mod Begun
pub mod Totals
pub mod Classed
pub mod Filled
