pub mod Expiry
pub mod Removals
