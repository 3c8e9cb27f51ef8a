pub mod Lemmas
mod NameLemmas
