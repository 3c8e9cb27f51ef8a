use Rattle.pm_model_following.proofs.ReplayLemmas.{replay-changes}
use Rattle.pm_model_following.proofs.laws.frames_law.Goals as goal

pub returns : goal.returns
returns c = replay-changes c.replay_law.ensures
