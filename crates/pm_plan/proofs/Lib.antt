mod BeginLemmas
mod GrownLemmas
mod LeftLemmas
mod MakeLemmas
mod RewrittenLemmas
mod StayLemmas
