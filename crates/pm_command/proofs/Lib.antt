pub mod Uncalled
pub mod TableLemmas
