mod EmptyLemmas
mod GoesOnLemmas
mod Life
mod RunLemmas
mod SuccessionLemmas
