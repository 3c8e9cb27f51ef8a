use Rattle.pm_choice.proofs.RemovedLemmas.{removed-live}
use Rattle.pm_choice.proofs.laws.removed_law.Goals as goal

pub returns : goal.returns
returns c = removed-live
