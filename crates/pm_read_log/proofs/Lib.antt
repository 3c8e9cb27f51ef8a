mod LogAfterLemmas
mod LogCauseLemmas
pub mod LogFacts
pub mod LogStillLemmas
mod WholeLemmas
