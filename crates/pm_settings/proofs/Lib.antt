mod NumberLemmas
mod ReadLemmas
mod TextLemmas
mod WriteLemmas
