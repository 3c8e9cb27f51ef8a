pub mod Block
pub mod Direct
pub mod Known
pub mod Lying
pub mod Seen
