pub mod Container
pub mod Header
pub mod Reader
pub mod Views
pub mod Writing
pub mod Begun
pub mod Part
