pub mod Commit
pub mod Snapshot
