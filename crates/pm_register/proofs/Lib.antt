mod AllCallsLemmas
mod AmongLemmas
mod CallLemmas
mod ChangeLemmas
mod Facts
mod OneLemmas
