pub mod Known
pub mod Planned
