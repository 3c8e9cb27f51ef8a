mod ColumnKeyLemmas
mod ColumnListLemmas
mod DecimalLemmas
pub mod EntryLemmas
mod FaultLemmas
pub mod Judging
mod KindLemmas
mod ListAgainLemmas
pub mod LookupLemmas
mod NamesLemmas
mod SlotLemmas
pub mod StandsLemmas
mod TableAgainLemmas
pub mod WrittenLemmas
