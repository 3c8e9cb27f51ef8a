pub mod Escaping
pub mod Report
pub mod Pieces
