pub mod AllCalls
pub mod Meaning
pub mod Reader
pub mod Trace
