use Rattle.pm_partitions.proofs.Groups.{one_group}
use Rattle.pm_partitions.proofs.laws.one_group_law.Goals as goal

pub returns : goal.returns
returns c = one_group
