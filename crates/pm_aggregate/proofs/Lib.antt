mod AggregationLemmas
pub mod CellLemmas
mod EndLemmas
pub mod ExtremeLemmas
pub mod FoldLemmas
pub mod FunctionLaws
pub mod FunctionLemmas
pub mod JoinLemmas
pub mod LeadingLemmas
pub mod RowLemmas
pub mod StoredLemmas
