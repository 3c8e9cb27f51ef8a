use Rattle.pm_expire_end.proofs.ExpiryLemmas.{is-end, only-end}
use Rattle.pm_expire_end.proofs.laws.one_end_law.Goals as goal

pub returns-clause-is : goal.returns-clause-is
returns-clause-is c = is-end

pub returns-clause-only : goal.returns-clause-only
returns-clause-only c = only-end
