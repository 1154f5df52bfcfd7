pub mod Storage
pub mod Threading
