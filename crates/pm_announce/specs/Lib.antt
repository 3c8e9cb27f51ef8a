pub mod Announcer
pub mod Meaning
pub mod Tags
pub mod Trace
