mod MergeLemmas
mod MergedLemmas
