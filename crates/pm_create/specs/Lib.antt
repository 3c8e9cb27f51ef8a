pub mod Creator
pub mod Making
pub mod Meaning
pub mod Trace
