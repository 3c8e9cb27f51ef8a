use Rattle.std.proofs.Common.{ap, sym, ◌∙◌}
use Rattle.pm_engine.specs.OfSchema.{drops_by}
use Rattle.pm_dedup.proofs.deduplicate.DeduplicateMergeEngine.droppable.Goals as goal

-- a row that retracts is left out
pub returns : goal.returns
returns c = c.retracts.ensures ∙ sym (ap (λ k. drops_by k (c.args.stored.now.kind, c.args.stored.now.row)) c.args.self.now.deduplicates)
