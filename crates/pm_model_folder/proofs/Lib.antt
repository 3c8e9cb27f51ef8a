pub mod BesideLemmas
mod ConsumerLemmas
mod ExpiryLemmas
pub mod Facts
mod GoneLemmas
pub mod HoldLemmas
pub mod KindFacts
pub mod LedgerFacts
mod NameLemmas
mod OwnFacts
pub mod PathLemmas
pub mod RunFacts
mod SameLemmas
pub mod SettledLemmas
mod StepFacts
