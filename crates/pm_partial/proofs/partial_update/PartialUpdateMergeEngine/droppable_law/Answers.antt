use Rattle.std.proofs.Common.{◌≡◌, true, false, ap, sym, ◌∙◌}
use Rattle.pm_engine.specs.OfSchema.{drops_by}
use Rattle.pm_partial.proofs.partial_update.PartialUpdateMergeEngine.droppable_law.Goals as goal

-- none is left out
pub returns : goal.returns
returns c engine key r taken is = let no : false ≡ true = sym (ap (λ k. drops_by k r) engine.in_part) ∙ is in cc
