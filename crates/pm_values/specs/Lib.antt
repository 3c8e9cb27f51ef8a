pub mod Fits
pub mod GroupOrder
pub mod Kind
pub mod Names
pub mod Order
