mod BaseLemmas
mod Decimals
pub mod Facts
mod NameLemmas
mod PartLemmas
mod PathLemmas
mod ReadLemmas
mod SnapshotLemmas
mod TextLemmas
mod WriteLemmas
