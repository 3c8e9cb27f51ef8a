pub mod Begun
pub mod Summary
pub mod Written
