mod AloneLemmas
pub mod Facts
