mod LogLemmas
mod NumberLemmas
pub mod OrderLemmas
mod TellLemmas
