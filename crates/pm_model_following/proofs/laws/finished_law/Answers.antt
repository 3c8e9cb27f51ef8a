use Rattle.pm_model_following.proofs.FollowingLemmas.{finished-input}
use Rattle.pm_model_following.proofs.laws.finished_law.Goals as goal

pub returns : goal.returns
returns c = finished-input
