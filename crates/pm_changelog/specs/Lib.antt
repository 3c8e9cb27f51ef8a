pub mod GroupLog
pub mod Written
