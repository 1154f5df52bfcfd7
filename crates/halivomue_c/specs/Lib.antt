pub mod Unpriced
