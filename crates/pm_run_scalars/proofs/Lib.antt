mod GroupLemmas
pub mod SpelledLemmas
