pub mod Date
pub mod Hexadecimal
pub mod Steps
