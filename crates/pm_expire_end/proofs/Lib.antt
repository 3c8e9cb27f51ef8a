mod ExpiryLemmas
mod NeededLemmas
