-- Facts that other crates' proofs use: the rest stands at the end of a source, what is read is what is there, and what
-- is written is read.
pub use Rattle.pm_avro_data.proofs.Follows.{Follows, groups_shorter}
pub use Rattle.pm_avro_data.proofs.Moves.{datum_follows}
pub use Rattle.pm_avro_data.proofs.Readings.{datum_again, entries-entries_of, entries_of-entries}
pub use Rattle.pm_avro_data.proofs.Types.{datum_typed}
pub use Rattle.pm_avro_data.proofs.Encodings.{datum_is, datum_some}
pub use Rattle.pm_avro_data.proofs.Added.{added_all, added_more, added_none, added_null}
