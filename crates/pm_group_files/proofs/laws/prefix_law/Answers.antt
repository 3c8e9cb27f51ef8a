use Rattle.pm_group_files.proofs.PrefixLemmas.{kept-stood, prefix-stood}
use Rattle.pm_group_files.proofs.laws.prefix_law.Goals as goal

pub returns-clause-newest : goal.returns-clause-newest
returns-clause-newest c = prefix-stood

pub returns-clause-kept : goal.returns-clause-kept
returns-clause-kept c = kept-stood
