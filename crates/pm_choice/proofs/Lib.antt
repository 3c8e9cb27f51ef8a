mod ChoiceLemmas
mod RemovedLemmas
mod StoredLemmas
