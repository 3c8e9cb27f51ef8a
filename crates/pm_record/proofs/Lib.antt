pub mod Facts
mod Loops
mod Taking
mod Nulls
mod Values
mod ReadLemmas
mod FileLemmas
mod WriteLemmas
