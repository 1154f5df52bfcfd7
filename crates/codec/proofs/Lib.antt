pub mod Table
pub mod Read
pub mod Write
pub mod Range
pub mod Laws
