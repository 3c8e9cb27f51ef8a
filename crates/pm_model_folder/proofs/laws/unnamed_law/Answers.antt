use Rattle.pm_model_folder.proofs.OwnFacts.{none-here, others-none, own-none}
use Rattle.pm_model_folder.proofs.PathLemmas.{one-namer}
use Rattle.pm_model_folder.proofs.laws.unnamed_law.Goals as goal

pub returns-clause-others : goal.returns-clause-others
returns-clause-others c = λ me other f after p q stands advances apart none.
    others-none c.one_contents_law.ensures c.same_law.ensures (one-namer c.path_law.ensures) c.snapshot_law.ensures.id c.snapshot_law.ensures.consistent me other f after p q stands advances none apart

pub returns-clause-own : goal.returns-clause-own
returns-clause-own c = λ me f after p q stands advances many none.
    own-none c.one_contents_law.ensures c.same_law.ensures (one-namer c.path_law.ensures) c.snapshot_law.ensures.id c.snapshot_law.ensures.consistent me me f after p q stands advances none many

pub returns-clause-here : goal.returns-clause-here
returns-clause-here c = none-here c.one_contents_law.ensures c.same_law.ensures c.snapshot_law.ensures.id c.snapshot_law.ensures.consistent
