pub mod AllCalls
pub mod Alone
pub mod Committer
pub mod Marks
pub mod Meaning
pub mod Own
pub mod Search
pub mod Trace
