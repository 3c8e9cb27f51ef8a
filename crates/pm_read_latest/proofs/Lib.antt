mod AllCallsLemmas
mod BesideLemmas
pub mod Facts
pub mod OneLemmas
