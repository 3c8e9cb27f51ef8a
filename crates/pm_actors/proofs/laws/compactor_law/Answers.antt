use Rattle.pm_actors.proofs.CompactLemmas.{compactor_still}
use Rattle.pm_actors.proofs.laws.compactor_law.Goals as goal

pub returns : goal.returns
returns c = compactor_still c.actor_law.ensures
