use Rattle.std.specs.BTreeMap.{get_by}
use Rattle.pm_values.specs.GroupOrder.{group_cmp}
use Rattle.pm_model_contents.proofs.GroupLemmas.{Done}
use Rattle.pm_model_contents.proofs.groups.levels_by_group.Given as goal

-- the groups so far are done
abbrev pub invariant-loop-group : goal.invariant-loop-group
invariant-loop-group l = Done l.fn.groups.entries l.yielded l.group-iterator (λ g. get_by (group_cmp g) l.levels)
