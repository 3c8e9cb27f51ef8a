pub mod Cut
pub mod Limit
