use Rattle.std.proofs.Common.{◌≡◌, ◌++◌, ◌-◌, length, replicate, take}
use Rattle.pm_values.specs.declared.value.Value.TheVariants.{Null}
use Rattle.pm_binrow.proofs.writing.filled.Given as goal

abbrev pub invariant-loop-value : goal.invariant-loop-value
invariant-loop-value l = l.out.items ≡ take l.value-index l.values

abbrev pub invariant-loop : goal.invariant-loop
invariant-loop l = l.out.items ≡ l.values ++ replicate (l.counter - length l.values) Null
