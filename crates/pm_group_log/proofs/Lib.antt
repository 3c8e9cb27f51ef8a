mod BytesLemmas
mod KeptLemmas
mod SidesLemmas
mod Sources
mod StoredLemmas
mod TellsLemmas
