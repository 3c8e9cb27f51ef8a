mod OrderLemmas
mod ReaderLemmas
mod RunLemmas
