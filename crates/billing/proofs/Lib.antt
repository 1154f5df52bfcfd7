pub mod Ways
pub mod Bills
pub mod Clauses
