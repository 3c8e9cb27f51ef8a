pub mod Facts
mod NewestLemmas
mod OrderLemmas
mod OverlapLemmas
mod PairLemmas
mod PickingLemmas
mod PickLemmas
mod ReplacedLemmas
mod RunLemmas
