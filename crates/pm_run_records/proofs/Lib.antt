pub mod ReadRowsLemmas
mod TakingLemmas
