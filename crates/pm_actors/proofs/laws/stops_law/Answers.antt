use Rattle.pm_actors.proofs.WorldLemmas.{cut_off, left}
use Rattle.pm_actors.proofs.laws.stops_law.Goals as goal

pub returns-clause-between : goal.returns-clause-between
returns-clause-between c = left

pub returns-clause-within : goal.returns-clause-within
returns-clause-within c = λ before later a new ops op effect. cut_off c.others_law.ensures before later a ops new op effect
