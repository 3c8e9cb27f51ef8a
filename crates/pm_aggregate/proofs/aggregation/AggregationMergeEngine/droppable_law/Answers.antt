use Rattle.std.proofs.Common.{◌≡◌, true, false, ap, sym, ◌∙◌}
use Rattle.pm_engine.specs.OfSchema.{drops_by}
use Rattle.pm_aggregate.proofs.aggregation.AggregationMergeEngine.droppable_law.Goals as goal

-- none is left out
pub returns : goal.returns
returns c engine key r taken is = let no : false ≡ true = sym (ap (λ k. drops_by k r) engine.aggregates) ∙ is in cc
