use Rattle.pm_runs.proofs.SuccessionLemmas.{rows-joined}
use Rattle.pm_runs.proofs.laws.rows_law.Goals as goal

pub returns : goal.returns
returns c = rows-joined
