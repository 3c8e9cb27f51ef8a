mod FaultLemmas
mod InputLemmas
mod LineLemmas
mod OrderLemmas
