pub mod Groups
pub mod Lists
pub mod Named
pub mod Runs
