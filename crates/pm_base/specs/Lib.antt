pub mod Faults
pub mod Newline
pub mod Outcome
pub mod Known
pub mod Steps
