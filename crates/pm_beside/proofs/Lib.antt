pub mod BringLemmas
