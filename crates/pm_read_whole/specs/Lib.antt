pub mod Meaning
pub mod Trace
pub mod Whole
