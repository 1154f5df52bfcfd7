pub mod Tiers
pub mod Answers
pub mod Tidied
