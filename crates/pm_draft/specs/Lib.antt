pub mod Draft
pub mod Input
