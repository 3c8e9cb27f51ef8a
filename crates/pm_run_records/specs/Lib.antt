pub mod RowReader
