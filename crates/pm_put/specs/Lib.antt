pub mod Making
pub mod Meaning
pub mod Putter
pub mod Trace
