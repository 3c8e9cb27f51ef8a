pub mod Clap
pub mod Reading
pub mod Words
