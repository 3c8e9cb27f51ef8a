pub mod Blank
pub mod Judge
pub mod Kept
pub mod Limits
pub mod Lines
pub mod Refusals
pub mod Rows
