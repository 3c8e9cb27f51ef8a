pub mod Consumers
pub mod Drop
