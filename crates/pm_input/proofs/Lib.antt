mod FirstLemmas
mod InputLemmas
mod JudgeLemmas
mod KeptLemmas
mod LawLemmas
mod LimitLemmas
