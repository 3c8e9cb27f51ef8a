pub mod Group
pub mod Stored
pub mod Shown
pub mod Next
