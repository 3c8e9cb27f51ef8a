use Rattle.pm_engine.proofs.StoredLemmas.{row-worth}
use Rattle.pm_engine.proofs.laws.worth_law.Goals as goal

pub returns : goal.returns
returns c = row-worth
