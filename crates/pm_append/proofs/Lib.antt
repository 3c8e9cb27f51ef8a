mod ByKeyLemmas
mod ChangeLemmas
mod CommitLemmas
mod CountLemmas
mod EntryLemmas
mod FileLemmas
pub mod FitLemmas
mod GroupLemmas
mod GrownLemmas
mod HeldLemmas
mod RowCountLemmas
