use Rattle.std.proofs.Common.{◌≡◌, ◌++◌, drop}
use Rattle.pm_choice.specs.Choice.{removed_entries}
use Rattle.pm_choice.proofs.removed.removed_in.Given as goal

-- the entries so far, and those of the groups that are left
abbrev pub invariant-loop-one : goal.invariant-loop-one
invariant-loop-one l = l.removed.items ++ removed_entries l.schema (drop l.one-index l.chosen) ≡ removed_entries l.schema l.chosen
