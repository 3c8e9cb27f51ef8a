use Rattle.pm_runs.proofs.SuccessionLemmas.{still-there, taken-there}
use Rattle.pm_runs.proofs.laws.there_law.Goals as goal

pub returns : goal.returns
returns c = λ s g entries since runs t is took have. still-there s g entries since runs is t.base t.taken took.from took.to (taken-there runs t took.was) have
