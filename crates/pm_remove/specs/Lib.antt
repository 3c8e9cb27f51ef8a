pub mod Meaning
pub mod Removal
pub mod Remover
pub mod Trace
