pub mod Accounts
pub mod Saved
pub mod History
pub mod Told
