mod LineLemmas
mod MergeLemmas
mod OwnLemmas
