mod RowLemmas
mod ValueLemmas
