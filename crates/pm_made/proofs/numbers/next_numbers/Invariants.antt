use Rattle.std.proofs.Common.{◌≡◌, drop, max}
use Rattle.pm_values.specs.declared.group.Group.{Group}
use Rattle.pm_write.specs.Files.{next_of}
use Rattle.pm_made.specs.Refusals.{next_number}
use Rattle.pm_made.proofs.numbers.next_numbers.Given as goal

-- the numbers so far, and those of the files that are left
abbrev pub invariant-loop-entry : goal.invariant-loop-entry
invariant-loop-entry l = (g : Group) → max (next_of l.next g) (next_number (drop l.entry-index l.live) g) ≡ next_number l.live g
