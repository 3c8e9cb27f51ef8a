mod DirectLemmas
mod JudgeLemmas
mod LyingLemmas
pub mod PlaceLemmas
