mod GroupLemmas
mod PartialLemmas
