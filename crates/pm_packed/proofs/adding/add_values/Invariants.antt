use Rattle.std.proofs.Common.{take}
use Rattle.pm_packed.specs.Values.{Adds, AreCodeOf}
use Rattle.pm_packed.proofs.adding.add_values.Given as goal

-- the values so far were added
abbrev pub invariant-loop-value : goal.invariant-loop-value
invariant-loop-value l = Adds (AreCodeOf (take l.value-index l.values)) l.fn.out.items l.out.items
