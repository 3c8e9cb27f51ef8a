mod AllCallsLemmas
pub mod BesideLemmas
pub mod Facts
pub mod OneLemmas
