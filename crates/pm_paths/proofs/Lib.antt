pub mod IdLemmas
pub mod ListLemmas
pub mod ListedLemmas
