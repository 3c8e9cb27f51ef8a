use Rattle.pm_commit.proofs.CommitterLemmas.{still-committer}
use Rattle.pm_commit.proofs.laws.committer_law.Goals as goal

pub returns : goal.returns
returns c = still-committer c.read_entry_law.ensures.manifest
