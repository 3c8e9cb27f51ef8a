pub mod Draws
pub mod Shown
