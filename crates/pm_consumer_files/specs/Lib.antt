pub mod Floors
pub mod Lines
