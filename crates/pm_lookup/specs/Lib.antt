pub mod Looking
pub mod File
pub mod Lookup
