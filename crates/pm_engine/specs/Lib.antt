pub mod Covers
pub mod Meaning
pub mod Needed
pub mod OfSchema
pub mod Reducing
pub mod Stored
