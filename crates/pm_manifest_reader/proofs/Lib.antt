mod ReadLemmas
mod TakenLemmas
