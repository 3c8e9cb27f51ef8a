use Rattle.pm_runs.proofs.SuccessionLemmas.{still}
use Rattle.pm_runs.proofs.laws.still_law.Goals as goal

pub returns : goal.returns
returns c = λ s g entries since runs t is took there. still s g entries since runs is c.added_law.ensures.all t took there
