mod AfterLemmas
mod AllCallsLemmas
mod AtLemmas
mod BesideLemmas
mod CauseLemmas
mod ChangeLemmas
pub mod Facts
mod FaultLemmas
mod FrameLemmas
mod KeptLemmas
pub mod OneLemmas
mod StoodLemmas
