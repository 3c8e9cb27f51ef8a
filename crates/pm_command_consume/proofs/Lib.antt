mod AloneLemmas
mod AnswerLemmas
mod BesideLemmas
mod BringLemmas
mod CompleteLemmas
mod ConsumeLemmas
mod OneLemmas
pub mod OpenLemmas
pub mod PieceLemmas
mod PlaceLemmas
mod StageLemmas
mod TwiceLemmas
