pub mod Commands
pub mod InTurn
pub mod Kept
pub mod Promise
pub mod Snapshots
pub mod Start
