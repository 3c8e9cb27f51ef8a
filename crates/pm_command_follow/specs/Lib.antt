pub mod Answer
pub mod Beside
pub mod Complete
pub mod Finished
pub mod Follow
pub mod Pieces
pub mod Printed
