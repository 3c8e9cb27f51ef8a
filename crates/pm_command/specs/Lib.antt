pub mod Outside
pub mod Table
