use Rattle.pm_read_table.proofs.EntryLemmas.{are_live}
use Rattle.pm_read_table.proofs.laws.entries_law.Goals as goal

pub returns : goal.returns
returns c = are_live
