pub mod Facts
pub mod AgainLemmas
mod BoundLemmas
pub mod ShapeLemmas
mod IdLemmas
mod OrderLemmas
mod LiveLemmas
