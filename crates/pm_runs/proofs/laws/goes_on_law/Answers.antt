use Rattle.pm_runs.proofs.GoesOnLemmas.{goes-on}
use Rattle.pm_runs.proofs.laws.goes_on_law.Goals as goal

pub returns : goal.returns
returns c = λ s g entries since runs later e is from positive bases same follows.
    goes-on s g entries since runs e is later same follows from c.added_law.ensures.some c.added_law.ensures.all positive bases
