pub mod Billing
pub mod Told
