use Rattle.std.proofs.Common.{◌≡◌, ◌++◌}
use Rattle.pm_choice.specs.Choice.{choices}
use Rattle.pm_choice.proofs.choice.chosen_in.Given as goal

-- the choices so far, and those of the groups that are left
abbrev pub invariant-loop-group : goal.invariant-loop-group
invariant-loop-group l =
    l.chosen.items ++ choices l.asked l.rule l.group-iterator ≡ choices l.asked l.rule l.fn.groups.entries
