pub mod TableEngine
pub mod Verdict
