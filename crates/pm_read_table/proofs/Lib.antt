pub mod AfterLemmas
pub mod CauseLemmas
pub mod EntryLemmas
pub mod Facts
pub mod FaultLemmas
pub mod ListedLemmas
pub mod LiveLemmas
pub mod TwoLemmas
pub mod NamedLemmas
pub mod OneLemmas
mod OverlapLemmas
pub mod StillLemmas
pub mod ViewCallsLemmas
pub mod WithinLemmas
