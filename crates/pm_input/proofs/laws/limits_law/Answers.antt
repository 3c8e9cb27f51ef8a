use Rattle.pm_input.proofs.LawLemmas.{one_verdict, one_limit}
use Rattle.pm_input.proofs.laws.limits_law.Goals as goal

pub returns-clause-one : goal.returns-clause-one
returns-clause-one c = one_verdict

pub returns-clause-alone : goal.returns-clause-alone
returns-clause-alone c = one_limit
