use Rattle.std.proofs.Common.{ap, sym, ◌∙◌}
use Rattle.pm_engine.specs.OfSchema.{drops_by}
use Rattle.pm_dedup.proofs.LastLemmas.{drops}
use Rattle.pm_dedup.proofs.deduplicate.DeduplicateMergeEngine.droppable_law.Goals as goal

-- a row that retracts has no effect
pub returns : goal.returns
returns c engine key r taken is = drops engine.schema key r engine.deduplicates (sym (ap (λ k. drops_by k r) engine.deduplicates) ∙ is)
