use Rattle.pm_actors.proofs.BeginLemmas.{came, joined}
use Rattle.pm_actors.proofs.laws.joins_law.Goals as goal

pub returns-clause-knows : goal.returns-clause-knows
returns-clause-knows c = joined

pub returns-clause-comes : goal.returns-clause-comes
returns-clause-comes c = came
