pub mod Alone
pub mod Beside
pub mod Complete
pub mod Consume
pub mod Pieces
pub mod Place
