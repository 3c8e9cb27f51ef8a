pub mod FieldValues
pub mod Reader
pub mod Taken
