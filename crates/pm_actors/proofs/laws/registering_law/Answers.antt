use Rattle.pm_actors.proofs.RegisterLemmas.{beside_expiry}
use Rattle.pm_actors.proofs.laws.registering_law.Goals as goal

pub returns : goal.returns
returns c = beside_expiry c.consumers_law.ensures.counts
