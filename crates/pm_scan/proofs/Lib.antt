mod AfterLemmas
mod AllCallsLemmas
mod AskedLemmas
mod BesideLemmas
mod CauseLemmas
pub mod Facts
mod FilesLemmas
mod KeptLemmas
mod KnownLemmas
mod PassedLemmas
mod RowsLemmas
pub mod OneLemmas
mod ScanLemmas
mod ViewCallsLemmas
mod ViewLemmas
