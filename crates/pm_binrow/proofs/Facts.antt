-- Facts that other crates' proofs use: the row that bytes are is the one that they are written of, both ways.
pub use Rattle.pm_binrow.proofs.Rows.{length-row, row_again, row_read}
