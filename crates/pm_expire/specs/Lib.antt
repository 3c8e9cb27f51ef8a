pub mod AllCalls
pub mod Beside
pub mod Expirer
pub mod Meaning
pub mod Trace
