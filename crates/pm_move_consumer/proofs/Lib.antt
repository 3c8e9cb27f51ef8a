pub mod DropperFacts
mod DropperLemmas
pub mod MoverFacts
mod MoverLemmas
mod OneCallLemmas
mod OneLemmas
mod SideLemmas
pub mod StepFacts
