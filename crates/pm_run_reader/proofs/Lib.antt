mod AppendLemmas
mod FindLemmas
mod JudgeLemmas
mod KnownLemmas
