pub mod AllCallsLemmas
pub mod BesideFacts
mod BesideLemmas
pub mod Facts
mod FaultLemmas
pub mod IdLemmas
pub mod LeadLemmas
mod NameLemmas
pub mod OneLemmas
pub mod PartLemmas
pub mod StillLemmas
