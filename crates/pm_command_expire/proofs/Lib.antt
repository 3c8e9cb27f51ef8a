pub mod ExpireLaws
mod OneLemmas
