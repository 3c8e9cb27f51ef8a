use Rattle.pm_partitions.proofs.Plain.{plain_names}
use Rattle.pm_partitions.proofs.laws.plain_names_law.Goals as goal

pub returns : goal.returns
returns c = plain_names
