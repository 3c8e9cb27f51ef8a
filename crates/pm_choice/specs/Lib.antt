pub mod Choice
pub mod Question
