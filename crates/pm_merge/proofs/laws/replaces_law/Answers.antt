use Rattle.pm_merge.proofs.MergeLemmas.{merge-covers, merge-covers_all, merge-replaces}
use Rattle.pm_merge.proofs.laws.replaces_law.Goals as goal

pub returns : goal.returns
returns c = record { replaces = merge-replaces; covers = merge-covers; covers_all = merge-covers_all }
