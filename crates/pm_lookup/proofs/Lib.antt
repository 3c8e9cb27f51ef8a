mod LookLemmas
mod KeyLemmas
mod FoundLemmas
mod FileLemmas
mod StepLemmas
mod WalkLemmas
mod OldLemmas
