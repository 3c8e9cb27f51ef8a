pub mod Leaf
pub mod Spelled
