pub mod ColumnValue
pub mod History
pub mod Merge
pub mod Merged
pub mod Taken
