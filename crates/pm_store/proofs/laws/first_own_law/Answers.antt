use Rattle.pm_store.proofs.StepLaws.{at_first_own-meanwhile, at_first_own-none, at_first_own-steps}
use Rattle.pm_store.proofs.laws.first_own_law.Goals as goal

pub returns-clause-meanwhile : goal.returns-clause-meanwhile
returns-clause-meanwhile c = λ op before middle after. at_first_own-meanwhile op (λ ops. Unit {0}) before middle after

pub returns-clause-step : goal.returns-clause-step
returns-clause-step c = λ op before middle after. at_first_own-steps op (λ ops. Unit {0}) before middle after

pub returns-clause-none : goal.returns-clause-none
returns-clause-none c = at_first_own-none
