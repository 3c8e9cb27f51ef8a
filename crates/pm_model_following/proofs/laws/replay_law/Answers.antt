use Rattle.pm_model_following.proofs.ReplayLemmas.{replay-change}
use Rattle.pm_model_following.proofs.laws.replay_law.Goals as goal

pub returns : goal.returns
returns c = replay-change c.merged_table_law.ensures
