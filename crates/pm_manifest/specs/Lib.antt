pub mod Entries
pub mod FileId
pub mod Listed
pub mod Live
pub mod Number
pub mod Rows
pub mod Shape
pub mod «Type»
