mod ContentLemmas
mod DocumentLemmas
mod FitLemmas
pub mod Lemmas
mod PlainLemmas
mod ReadLemmas
mod RowLemmas
mod TextLemmas
