pub mod Aggregation
pub mod Column
pub mod ColumnFunction
pub mod Functions
pub mod Steps
