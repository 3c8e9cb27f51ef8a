use Rattle.pm_merged_log.proofs.OwnLemmas.{follow_own}
use Rattle.pm_merged_log.proofs.laws.own_keys_law.Goals as goal

pub returns : goal.returns
returns c = follow_own
