use Rattle.pm_made.proofs.CommitLemmas.{commits}
use Rattle.pm_made.proofs.laws.commit_law.Goals as goal

pub returns : goal.returns
returns c = commits (record {
  one_contents = c.one_contents_law.ensures;
  contents_stay = c.kept_law.ensures;
  consistent = c.snapshot_law.ensures.consistent;
  bears = c.snapshot_law.ensures.id;
}) c.path_law.ensures
