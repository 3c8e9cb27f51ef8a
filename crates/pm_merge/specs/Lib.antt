pub mod Merge
pub mod Merging
pub mod Source
