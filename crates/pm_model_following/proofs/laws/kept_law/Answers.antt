use Rattle.pm_model_following.proofs.GrowthLemmas.{followed-first, change-first}
use Rattle.pm_model_following.proofs.laws.kept_law.Goals as goal

pub returns-clause-table : goal.returns-clause-table
returns-clause-table c = followed-first

pub returns-clause-change : goal.returns-clause-change
returns-clause-change c = change-first
