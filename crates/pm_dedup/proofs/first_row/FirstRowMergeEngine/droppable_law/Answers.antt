use Rattle.std.proofs.Common.{◌≡◌, true, false, ◌∙◌}
use Rattle.pm_dedup.proofs.FirstLemmas.{drops_none}
use Rattle.pm_dedup.proofs.first_row.FirstRowMergeEngine.droppable_law.Goals as goal

-- none is left out
pub returns : goal.returns
returns c engine key r taken is = let no : false ≡ true = drops_none engine.schema r engine.keeps_first ∙ is in cc
