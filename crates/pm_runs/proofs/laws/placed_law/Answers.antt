use Rattle.pm_runs.proofs.SuccessionLemmas.{stands-longer}
use Rattle.pm_runs.proofs.laws.placed_law.Goals as goal

pub returns : goal.returns
returns c = λ s g entries since runs t e made new is took still put.
    stands-longer s g entries since runs is c.added_law.ensures.all t took e made new still put
