use Rattle.pm_partitions.proofs.Lengths.{number_short}
use Rattle.std.proofs.Common.{sym}
use Rattle.pm_partitions.proofs.limit.is_long_number.Goals as goal

pub returns : goal.returns
returns c = sym (number_short c.args.number c.ranges.number)
