use Rattle.pm_choice.proofs.StoredLemmas.{taken-stored}
use Rattle.pm_choice.proofs.laws.stored_law.Goals as goal

pub returns : goal.returns
returns c = taken-stored c.merged_law.ensures.found c.own_kind_law.ensures
