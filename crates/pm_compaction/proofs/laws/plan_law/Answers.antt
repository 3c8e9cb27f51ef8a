use Rattle.pm_compaction.proofs.PlanLemmas.{plan-stays}
use Rattle.pm_compaction.proofs.laws.plan_law.Goals as goal

pub returns : goal.returns
returns c = λ me other f after p q s base plan given advances knows. plan-stays c.goes_on_law.ensures me other f after p q s base advances plan given knows
