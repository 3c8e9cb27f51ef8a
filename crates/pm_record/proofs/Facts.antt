-- Facts that other crates' proofs use.
pub use Rattle.pm_record.proofs.Nulls.{present_typed}
pub use Rattle.pm_record.proofs.Values.{selected_typed, absent}
pub use Rattle.pm_record.proofs.ReadLemmas.{all_read-append, all_read-parts, all_read-map}
pub use Rattle.pm_record.proofs.ReadLemmas.{read_nothing, read_more, block_read, all_blocks_read, block_refused, block_further, block_moves}
pub use Rattle.pm_record.proofs.FileLemmas.{answers_memory, answers_unopened, answers_untaken, answers_taken}
pub use Rattle.pm_record.proofs.WriteLemmas.{last_block}
