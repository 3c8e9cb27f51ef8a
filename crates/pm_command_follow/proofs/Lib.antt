mod BesideLemmas
mod CompleteLemmas
mod FinishedLemmas
mod FitLemmas
pub mod HistoryLemmas
pub mod JoinLemmas
pub mod KnownLemmas
pub mod LearnLemmas
pub mod OneLemmas
pub mod PieceLemmas
mod ReplayLemmas
pub mod StageLemmas
pub mod TextLemmas
pub mod WhyLemmas
