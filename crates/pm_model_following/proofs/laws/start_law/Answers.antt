use Rattle.pm_model_following.proofs.GrowthLemmas.{followed-start}
use Rattle.pm_model_following.proofs.laws.start_law.Goals as goal

pub returns : goal.returns
returns c = followed-start
