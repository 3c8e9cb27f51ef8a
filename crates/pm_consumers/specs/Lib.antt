pub mod AllCalls
pub mod Lister
pub mod Names
pub mod Reading
pub mod Trace
