use Rattle.pm_commit.proofs.ActorLemmas.{still-run}
use Rattle.pm_commit.proofs.laws.actor_law.Goals as goal

pub returns : goal.returns
returns c = still-run
