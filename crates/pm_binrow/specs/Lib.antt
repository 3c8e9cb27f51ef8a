pub mod Answer
pub mod Hashing
pub mod Reading
pub mod Row
