pub mod Dropping
pub mod Floors
