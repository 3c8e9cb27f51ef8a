pub mod Lemmas
pub mod LineLemmas
mod Known
mod NewlineLemmas
mod Reading
mod Writing
