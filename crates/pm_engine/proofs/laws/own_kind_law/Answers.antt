use Rattle.pm_engine.proofs.StoredLemmas.{own-kind}
use Rattle.pm_engine.proofs.laws.own_kind_law.Goals as goal

pub returns : goal.returns
returns c = own-kind
