pub mod PartialUpdate
pub mod Update
