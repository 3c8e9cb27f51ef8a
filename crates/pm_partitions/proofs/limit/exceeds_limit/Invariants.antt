use Rattle.std.proofs.Common.{◌≡◌, drop}
use Rattle.std.specs.List.{list_any}
use Rattle.pm_partitions.specs.Names.{is_too_long}
use Rattle.pm_partitions.proofs.limit.exceeds_limit.Given as goal

abbrev pub invariant-loop-value : goal.invariant-loop-value
invariant-loop-value l = list_any is_too_long (drop l.value-index l.partition) ≡ list_any is_too_long l.partition
