use Rattle.pm_dedup.proofs.FirstLemmas.{drops_none}
use Rattle.pm_dedup.proofs.first_row.FirstRowMergeEngine.droppable.Goals as goal

-- none is left out
pub returns : goal.returns
returns c = drops_none c.args.self.now.schema _ c.args.self.now.keeps_first
