mod AgainLemmas
mod ColumnLemmas
mod FloatLemmas
mod JsonLemmas
mod Lists
mod ShapeLemmas
mod WriteLemmas
