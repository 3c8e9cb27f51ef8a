use Rattle.pm_snapshot.proofs.BaseLemmas.{one_base}
use Rattle.pm_snapshot.proofs.laws.base_law.Goals as goal

pub returns-clause-one : goal.returns-clause-one
returns-clause-one c = one_base (record { one = c.names_law.ensures.one; longer = c.names_law.ensures.longer })
