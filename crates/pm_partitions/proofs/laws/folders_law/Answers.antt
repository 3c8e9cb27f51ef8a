use Rattle.pm_partitions.proofs.Groups as groups
use Rattle.pm_partitions.proofs.laws.folders_law.Goals as goal

pub returns : goal.returns
returns c = record { names = groups.names; count = groups.count; plain = groups.plain; short = groups.short }
