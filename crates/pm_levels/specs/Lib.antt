pub mod Order
pub mod Overlap
pub mod Picking
pub mod Runs
pub mod Sizes
