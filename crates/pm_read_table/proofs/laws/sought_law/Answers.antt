use Rattle.pm_read_table.proofs.ListedLemmas.{were_listed}
use Rattle.pm_read_table.proofs.laws.sought_law.Goals as goal

pub returns : goal.returns
returns c = were_listed
