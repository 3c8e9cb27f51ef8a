pub mod Asked
pub mod Meaning
pub mod Reader
pub mod Reading
pub mod Trace
pub mod View
pub mod Named
