mod OneLemmas
pub mod WriteLaws
