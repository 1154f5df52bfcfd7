pub mod Arms
pub mod Edges
pub mod Laws
