mod GivenLemmas
mod LawLemmas
mod OwnRowsLemmas
mod ReadLemmas
mod RewriteLemmas
