use Rattle.pm_runs.proofs.EmptyLemmas.{oldest-taken, place-taken}
use Rattle.pm_runs.proofs.laws.made_law.Goals as goal

pub returns-clause-place : goal.returns-clause-place
returns-clause-place c = place-taken

pub returns-clause-oldest : goal.returns-clause-oldest
returns-clause-oldest c = oldest-taken
