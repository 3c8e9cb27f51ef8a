mod KnownLemmas
mod NeverLemmas
mod RemovalLemmas
