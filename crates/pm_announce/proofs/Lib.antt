pub mod CauseLemmas
pub mod Facts
mod KnowsLemmas
