use Rattle.pm_levels.proofs.PickLemmas.{is-choice}
use Rattle.pm_levels.proofs.laws.pick_law.Goals as goal

pub returns : goal.returns
returns c = is-choice
