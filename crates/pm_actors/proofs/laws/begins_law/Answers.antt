use Rattle.pm_actors.proofs.BeginLemmas.{begun}
use Rattle.pm_actors.proofs.laws.begins_law.Goals as goal

pub returns : goal.returns
returns c = begun c.found_law.ensures c.joins_law.ensures.knows
