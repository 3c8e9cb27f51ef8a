-- Facts that other crates' proofs use: what is written of entries and manifests is read as the same, and what is read
-- can be written.
pub use Rattle.pm_manifest.proofs.AgainLemmas.{entries_again, entry_again, meta_again, metas_again}
pub use Rattle.pm_manifest.proofs.BoundLemmas.{all_read_all, entry_read, meta_read}
pub use Rattle.pm_manifest.proofs.ShapeLemmas.{shape_of-HasRest}
