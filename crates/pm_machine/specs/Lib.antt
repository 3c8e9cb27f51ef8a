pub mod Beside
pub mod Moves
pub mod Running
pub mod Step
pub mod Trace
