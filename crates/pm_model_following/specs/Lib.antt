pub mod Following
pub mod Groups
