pub mod Made
pub mod Rewriting
pub mod Rewritten
