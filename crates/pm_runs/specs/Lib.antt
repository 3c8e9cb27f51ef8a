pub mod Stand
pub mod Succession
