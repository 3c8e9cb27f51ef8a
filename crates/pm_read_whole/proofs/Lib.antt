mod AfterLemmas
pub mod CauseLemmas
pub mod Facts
