mod Bytes
mod Escapes
mod Groups
mod Lengths
mod Names
pub mod Plain
mod Tests
mod Texts
