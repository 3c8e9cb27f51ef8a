pub mod AllCalls
pub mod Alone
pub mod Compactor
pub mod Meaning
pub mod Trace
