mod StoredLemmas
mod GroupLemmas
mod ShownLemmas
mod ScanLemmas
mod TextLemmas
mod GivenLemmas
