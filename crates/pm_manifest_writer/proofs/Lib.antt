mod KindLemmas
mod RecordLemmas
