pub mod Changes
pub mod Claims
pub mod Expiry
pub mod Known
