pub mod AllCalls
pub mod Beside
pub mod Meaning
pub mod Names
pub mod Reader
pub mod Trace
