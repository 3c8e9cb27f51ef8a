use Rattle.std.proofs.Common.{[], ◌∷◌}
use Rattle.pm_merge.proofs.MergeLemmas.{is_merge, joins-one}
use Rattle.pm_merge.proofs.laws.one_run_law.Goals as goal

pub returns : goal.returns
returns c m run rising = is_merge m (run ∷ []) run (joins-one m run rising)
