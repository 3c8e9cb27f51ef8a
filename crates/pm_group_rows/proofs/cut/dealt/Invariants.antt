use Rattle.std.proofs.Common.{◌≡◌, take}
use Rattle.std.specs.BTreeMap.{get_by}
use Rattle.pm_values.specs.GroupOrder.{group_cmp}
use Rattle.pm_values.specs.declared.group.Group.{Group}
use Rattle.pm_group_rows.specs.Cut.{cut_of}
use Rattle.pm_group_rows.proofs.cut.dealt.Given as goal

-- each group has those of the rows so far
abbrev pub invariant-loop-index : goal.invariant-loop-index
invariant-loop-index l = (g : Group) → get_by (group_cmp g) l.groups ≡ cut_of l.schema g (take l.index l.rows)
