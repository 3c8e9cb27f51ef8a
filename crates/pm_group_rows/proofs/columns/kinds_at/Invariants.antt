use Rattle.std.proofs.Common.{◌≡◌, map, take}
use Rattle.pm_model_following.specs.Groups.{kind_at}
use Rattle.pm_group_rows.proofs.columns.kinds_at.Given as goal

-- the types of the columns so far
abbrev pub invariant-loop-column : goal.invariant-loop-column
invariant-loop-column l = l.kinds.items ≡ map (kind_at l.schema) (take l.column-index l.columns)
