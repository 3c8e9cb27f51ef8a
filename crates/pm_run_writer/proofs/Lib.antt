mod BegunLemmas
mod FileLemmas
mod LoopLemmas
mod SeenLemmas
mod SummaryLemmas
mod TypeLemmas
mod WrittenLemmas
