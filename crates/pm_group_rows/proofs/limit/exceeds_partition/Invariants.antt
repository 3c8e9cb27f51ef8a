use Rattle.std.proofs.Common.{◌≡◌, drop}
use Rattle.std.specs.List.{list_any}
use Rattle.pm_model_history.specs.Merge.{key_of}
use Rattle.pm_partitions.specs.Names.{is_too_long}
use Rattle.pm_group_rows.proofs.limit.exceeds_partition.Given as goal

-- no value so far is too long
abbrev pub invariant-loop-index : goal.invariant-loop-index
invariant-loop-index l = list_any is_too_long (key_of (drop l.index-index l.partition) l.row) ≡ list_any is_too_long (key_of l.partition l.row)
