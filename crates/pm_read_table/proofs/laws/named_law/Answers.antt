use Rattle.pm_read_table.proofs.NamedLemmas.{named_exactly}
use Rattle.pm_read_table.proofs.laws.named_law.Goals as goal

pub returns : goal.returns
returns c = named_exactly
