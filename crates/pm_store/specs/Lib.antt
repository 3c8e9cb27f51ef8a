pub mod Answers
pub mod Failing
pub mod Files
pub mod Images
pub mod Lent
pub mod Names
pub mod Store
