pub mod Datum
pub mod HasType
pub mod IsDatum
pub mod Number
pub mod Begins
pub mod Writing
pub mod Adding
pub mod Reading
