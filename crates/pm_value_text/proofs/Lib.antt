mod CivilLemmas
mod DateLemmas
mod HexLemmas
pub mod Lemmas
