use Rattle.pm_group_files.proofs.ViewLemmas.{view-stood}
use Rattle.pm_group_files.proofs.laws.view_law.Goals as goal

pub returns : goal.returns
returns c = view-stood c.one_runs_law.ensures c.one_contents_law.ensures
