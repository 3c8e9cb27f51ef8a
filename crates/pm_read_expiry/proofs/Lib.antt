pub mod CauseLemmas
pub mod Facts
mod KnowsLemmas
mod ListLemmas
mod TimesLemmas
