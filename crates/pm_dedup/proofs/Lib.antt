mod FirstLemmas
mod LastLemmas
