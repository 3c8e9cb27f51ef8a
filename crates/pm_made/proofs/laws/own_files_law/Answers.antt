use Rattle.pm_made.proofs.OwnLemmas.{own-files}
use Rattle.pm_made.proofs.laws.own_files_law.Goals as goal

pub returns : goal.returns
returns c = own-files
