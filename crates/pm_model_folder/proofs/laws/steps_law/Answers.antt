use Rattle.pm_model_folder.proofs.StepFacts.{consumer-step, expire-step, floor-step, forget-step, remove-step}
use Rattle.pm_model_folder.proofs.laws.steps_law.Goals as goal

pub returns-clause-consumer : goal.returns-clause-consumer
returns-clause-consumer c = λ me f after p s entries name content claims was plain. consumer-step me f after p s entries was plain name content claims

pub returns-clause-announces : goal.returns-clause-announces
returns-clause-announces c = λ me f after p s entries n found was plain. floor-step me f after p s entries was plain n found

pub returns-clause-forgets : goal.returns-clause-forgets
returns-clause-forgets c = λ me f after p s entries n above was plain. forget-step me f after p s entries was plain n above

pub returns-clause-expires : goal.returns-clause-expires
returns-clause-expires c = λ me f after p s entries least path was plain is_least is below announced puts above.
    expire-step me f after p s entries was plain least path is_least is below announced puts above

pub returns-clause-removes : goal.returns-clause-removes
returns-clause-removes c = λ me f after p s entries path was plain. remove-step me f after p s entries was plain path
