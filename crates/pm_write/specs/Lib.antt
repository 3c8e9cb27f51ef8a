pub mod Batch
pub mod Files
pub mod Held
pub mod Taken
