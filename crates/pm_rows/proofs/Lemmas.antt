-- What other crates' proofs use: the lines of rows.
pub use Rattle.pm_rows.proofs.FitLemmas.{Fits-row_of}
pub use Rattle.pm_rows.proofs.RowLemmas.{row_of-row_text, row_text-begins, IsUnbroken-row_text}
