mod CoverLemmas
pub mod Facts
mod PickLemmas
mod ReduceLemmas
pub mod Rising
mod StoredLemmas
