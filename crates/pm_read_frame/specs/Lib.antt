pub mod AllCalls
pub mod Frames
pub mod Meaning
pub mod Reader
pub mod Reading
pub mod Taken
pub mod Trace
