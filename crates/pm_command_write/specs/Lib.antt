pub mod Input
pub mod Write
