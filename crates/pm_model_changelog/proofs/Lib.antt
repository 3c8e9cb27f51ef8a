mod ChangeLemmas
mod GroupLemmas
mod KeyLemmas
mod LogLemmas
mod OrderLemmas
mod PartsLemmas
mod PassingLemmas
mod StandingLemmas
