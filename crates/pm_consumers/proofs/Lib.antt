pub mod AllCallsLemmas
mod BesideLemmas
pub mod CauseLemmas
pub mod Facts
mod NameLemmas
pub mod OneLemmas
mod ReadingLemmas
