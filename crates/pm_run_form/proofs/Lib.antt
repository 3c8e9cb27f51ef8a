pub mod AgainLemmas
mod CellLemmas
mod KindLemmas
pub mod LoopLemmas
pub mod RowLemmas
mod ValueLemmas
