pub mod Expiry
pub mod Keep
