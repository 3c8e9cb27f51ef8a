pub mod AllCalls
pub mod Asked
pub mod Beside
pub mod Meaning
pub mod Rows
pub mod Scanner
pub mod Trace
