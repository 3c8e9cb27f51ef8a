pub mod Disk
pub mod Folders
pub mod Names
pub mod Paths
pub mod Temporary
