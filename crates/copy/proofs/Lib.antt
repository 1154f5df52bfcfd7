pub mod Laws
pub mod Hows
pub mod Copying
