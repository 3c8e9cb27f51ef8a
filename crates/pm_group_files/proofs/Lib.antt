mod AfterLemmas
pub mod CauseLemmas
pub mod Facts
pub mod FaultLemmas
pub mod JobLemmas
pub mod KeptLemmas
mod NextLemmas
pub mod OneLemmas
pub mod ReadLemmas
mod PrefixLemmas
mod RowLemmas
pub mod StillLemmas
pub mod TakenLemmas
pub mod ViewLemmas
mod WholeLemmas
