pub mod Found
pub mod Meaning
pub mod Reader
pub mod Times
pub mod Trace
