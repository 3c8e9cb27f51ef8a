pub mod Chosen
pub mod Collected
pub mod Jobs
pub mod Meaning
pub mod Reader
pub mod Reading
pub mod Trace
