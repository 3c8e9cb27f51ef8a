pub mod Commit
pub mod Delta
pub mod Files
pub mod Intent
pub mod Refusals
pub mod Snapshot
