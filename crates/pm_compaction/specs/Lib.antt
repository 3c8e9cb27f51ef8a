pub mod Compacted
pub mod Plan
