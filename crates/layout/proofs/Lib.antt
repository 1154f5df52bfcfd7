pub mod Walks
pub mod Order
pub mod Laid
