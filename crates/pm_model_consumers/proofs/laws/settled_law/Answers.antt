use Rattle.pm_model_consumers.proofs.ChangeLemmas.{settled-frames, settled-on}
use Rattle.pm_model_consumers.proofs.laws.settled_law.Goals as goal

pub returns-clause-stays : goal.returns-clause-stays
returns-clause-stays c = λ me m n name from next moved holds change was file. settled-on me m n name from next moved was file change

pub returns-clause-frames : goal.returns-clause-frames
returns-clause-frames c = settled-frames
