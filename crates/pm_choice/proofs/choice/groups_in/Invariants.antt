use Rattle.std.proofs.Common.{◌≡◌, ◌++◌, drop}
use Rattle.pm_choice.specs.Choice.{named_groups}
use Rattle.pm_choice.proofs.choice.groups_in.Given as goal

-- the groups so far, and those that are left
abbrev pub invariant-loop-one : goal.invariant-loop-one
invariant-loop-one l = l.groups.items ++ named_groups (drop l.one-index l.chosen) ≡ named_groups l.chosen
